-- What is left of a table's entries while their wakers are taken out, one after the other.
use Rattle.std.proofs.Common.{◌≡◌, ℕ, ◌+◌, ◌<◌, ◌++◌, List, [], ◌∷◌, length, map, Option, refl, sym, ap, ◌∙◌, arith, length-append}
use Rattle.std.proofs.lemmas.List.{append-nil, append_assoc, map-append}
use Rattle.executor_parts.specs.Places.{Entry, Places, turned, unwoken}

module _ {F V : Type 0} where
  -- this many of the first have none any more, and come last
  pub record Turned (old now : List (Entry F (Option V))) (count : ℕ) : Type 0 where
    pub front : List (Entry F (Option V))
    pub back : List (Entry F (Option V))
    pub was : old ≡ front ++ back
    pub is : now ≡ back ++ map unwoken front
    pub counted : length front ≡ count

  pub Turned-none : (es : List (Entry F (Option V))) → Turned es es 0
  Turned-none es = record { front = []; back = es; was = refl; is = sym (append-nil es); counted = refl }

  more_by :
      (old now front back : List (Entry F (Option V))) (n : ℕ)
      → old ≡ front ++ back → now ≡ back ++ map unwoken front → length front ≡ n → n < length old → Turned old (turned now) (n + 1)
  more_by old now front [] n was is counted below =
      absurd (omega (arith, counted, below, ap length was, length-append front []))
  more_by old now front (e ∷ es) n was is counted below = record {
    front = front ++ e ∷ [];
    back = es;
    was = was ∙ sym (append_assoc front (e ∷ []) es);
    is = ap turned is ∙ append_assoc es (map unwoken front) (unwoken e ∷ [])
        ∙ ap (λ (rest : List (Entry F (Option V))). es ++ rest) (sym (map-append unwoken front (e ∷ [])));
    counted = omega (arith, counted, length-append front (e ∷ []));
  }

  -- one more
  pub Turned-more :
      (old now : List (Entry F (Option V))) (n : ℕ) → Turned old now n → n < length old → Turned old (turned now) (n + 1)
  Turned-more old now n t below = more_by old now t.front t.back n t.was t.is t.counted below

  all_by :
      (old now front back : List (Entry F (Option V)))
      → old ≡ front ++ back → now ≡ back ++ map unwoken front → length front ≡ length old → now ≡ map unwoken old
  all_by old now front [] was is counted = is ∙ ap (map unwoken) (sym (append-nil front) ∙ sym was)
  all_by old now front (e ∷ es) was is counted =
      absurd (omega (arith, counted, ap length was, length-append front (e ∷ es)))

  -- all of them
  pub Turned-all : (old now : List (Entry F (Option V))) → Turned old now (length old) → now ≡ map unwoken old
  Turned-all old now t = all_by old now t.front t.back t.was t.is t.counted

  -- nothing else changed
  pub kept :
      (old mid now : Places F (Option V))
      → mid ≡ record old { entries = mid.entries } → now ≡ record mid { entries = now.entries }
      → now ≡ record old { entries = now.entries }
  kept old mid now before more = more ∙ ap (λ (p : Places F (Option V)). record p { entries = now.entries }) before
