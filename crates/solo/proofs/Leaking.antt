-- What is left of a table's entries while their wakers are taken out, one after the other.
use Rattle.std.proofs.Common.{◌≡◌, ℕ, ◌+◌, ◌<◌, ◌++◌, List, [], ◌∷◌, length, map, Option, refl, sym, ap, subst, ◌∙◌, arith, length-append}
use Rattle.std.proofs.lemmas.List.{append-nil, append_assoc, map-append}
use Rattle.queue_steps.specs.ClosableQueue.{ClosableQueue}
use Rattle.executor_parts.specs.Places.{Entry, turned, unwoken, first_waker}
use Rattle.solo.specs.declared.names.Task.{Task}
use Rattle.solo.specs.declared.names.Kind.TheVariants.{Static}
use Rattle.solo.specs.declared.solo.Solo.{Solo}
use Rattle.solo.specs.Table.{TableValue}
use Rattle.solo.specs.Closing.{pushed_all, pushed_if, to_wake}

module _ {F : Type 0} where
  -- so many of the first have none any more, and come last; what they had is to be called
  pub record Turned (old now : List (Entry F (Option Task))) (line leaving : ClosableQueue Task) (count : ℕ) : Type 0 where
    pub front : List (Entry F (Option Task))
    pub back : List (Entry F (Option Task))
    pub was : old ≡ front ++ back
    pub is : now ≡ back ++ map unwoken front
    pub counted : length front ≡ count
    pub kept : leaving ≡ pushed_all front line

  pub Turned-none : (es : List (Entry F (Option Task))) (line : ClosableQueue Task) → Turned es es line line 0
  Turned-none es line = record { front = []; back = es; was = refl; is = sym (append-nil es); counted = refl; kept = refl }

  pushed-last : (es : List (Entry F (Option Task))) (e : Entry F (Option Task)) (line : ClosableQueue Task)
      → pushed_if e.waker (pushed_all es line) ≡ pushed_all (es ++ e ∷ []) line
  pushed-last [] e line = refl
  pushed-last (d ∷ es) e line = pushed-last es e (pushed_if d.waker line)

  more_by :
      (old now front back : List (Entry F (Option Task))) (line leaving : ClosableQueue Task) (n : ℕ)
      → old ≡ front ++ back → now ≡ back ++ map unwoken front → length front ≡ n → leaving ≡ pushed_all front line → n < length old
      → Turned old (turned now) line (pushed_if (first_waker now) leaving) (n + 1)
  more_by old now front [] line leaving n was is counted kept below =
      absurd (omega (arith, counted, below, ap length was, length-append front []))
  more_by old now front (e ∷ es) line leaving n was is counted kept below = record {
    front = front ++ e ∷ [];
    back = es;
    was = was ∙ sym (append_assoc front (e ∷ []) es);
    is = ap turned is ∙ append_assoc es (map unwoken front) (unwoken e ∷ [])
        ∙ ap (λ (rest : List (Entry F (Option Task))). es ++ rest) (sym (map-append unwoken front (e ∷ [])));
    counted = omega (arith, counted, length-append front (e ∷ []));
    kept = ap (λ (entries : List (Entry F (Option Task))). pushed_if (first_waker entries) leaving) is
        ∙ ap (pushed_if e.waker) kept ∙ pushed-last front e line;
  }

  -- one more
  pub Turned-more :
      (old now : List (Entry F (Option Task))) (line leaving : ClosableQueue Task) (n : ℕ) → Turned old now line leaving n → n < length old
      → Turned old (turned now) line (pushed_if (first_waker now) leaving) (n + 1)
  Turned-more old now line leaving n t below = more_by old now t.front t.back line leaving n t.was t.is t.counted t.kept below

  all_by :
      (old now front back : List (Entry F (Option Task))) (line leaving : ClosableQueue Task)
      → old ≡ front ++ back → now ≡ back ++ map unwoken front → length front ≡ length old → leaving ≡ pushed_all front line
      → (now ≡ map unwoken old) × (leaving ≡ pushed_all old line)
  all_by old now front [] line leaving was is counted kept =
      let same : front ≡ old = sym (append-nil front) ∙ sym was in
      (is ∙ ap (map unwoken) same, kept ∙ ap (λ es. pushed_all es line) same)
  all_by old now front (e ∷ es) line leaving was is counted kept =
      absurd (omega (arith, counted, ap length was, length-append front (e ∷ es)))

  -- all of them
  pub Turned-all :
      (old now : List (Entry F (Option Task))) (line leaving : ClosableQueue Task) → Turned old now line leaving (length old)
      → (now ≡ map unwoken old) × (leaving ≡ pushed_all old line)
  Turned-all old now line leaving t = all_by old now t.front t.back line leaving t.was t.is t.counted t.kept

module _ {F T X : Type 0} where
  -- static, with these entries and these wakers to be called
  abbrev pub Leaks : Solo F T X → Solo F T X → Type 0
  Leaks old now = now ≡ record old { kind = Static; table = record old.table { entries = now.table.entries }; leaving = now.leaving }

  -- one more waker is taken out
  pub goes-on :
      (old now new : Solo F T X) (table : TableValue F) (waker : Option Task) (n : ℕ)
      → Turned old.table.entries now.table.entries old.leaving now.leaving n → Leaks old now → n < length old.table.entries
      → table ≡ record now.table { entries = turned now.table.entries } → waker ≡ first_waker now.table.entries
      → new ≡ to_wake waker (record now { table = table })
      → Turned old.table.entries new.table.entries old.leaving new.leaving (n + 1) × Leaks old new
  goes-on old now new table waker n done whole below is_turned is_first last =
      let turn : Solo F T X → Solo F T X =
      λ s. record s {
        table = record s.table { entries = turned now.table.entries };
        leaving = pushed_if (first_waker now.table.entries) now.leaving;
      } in
      let is : new ≡ turn now =
      last ∙ ap (λ (w : Option Task). to_wake w (record now { table = table })) is_first
      ∙ ap (λ (t : TableValue F). to_wake (first_waker now.table.entries) (record now { table = t })) is_turned in (
        subst (λ (s : Solo F T X). Turned old.table.entries s.table.entries old.leaving s.leaving (n + 1)) (sym is)
            (Turned-more old.table.entries now.table.entries old.leaving now.leaving n done below),
        subst (Leaks old) (sym is) (ap turn whole),
      )
