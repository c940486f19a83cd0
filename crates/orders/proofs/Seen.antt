-- Orders that the check has seen, and one more.
use Rattle.std.proofs.Common.{◌≡◌, ℕ, suc, ◌+◌, ◌-◌, ◌≤◌, ◌∙◌, Bool, List, [], ◌∷◌, replicate, add-one, arith, cond, length, count_by, sym, subst}
use Rattle.std.proofs.lemmas.List.Sums.{sum_by-cons}
use Rattle.orders.specs.declared.failure.End.{End}
use Rattle.orders.specs.declared.failure.End.TheVariants.{Right}
use Rattle.orders.specs.Ends.{AllRight, AreCounted, Asks, HasSeen, is_cut, is_wrong}

module _ {C X : Type 0} (calls : C → X → Bool → C → Type 0) where
  -- One more order was right.
  pub one_more_right : (first before last : C) (end : End) (start n : ℕ) → start ≤ n → end ≡ Right
      → HasSeen calls first (replicate (n - start) Right) before → Asks calls before end last
      → HasSeen calls first (replicate (n + 1 - start) Right) last
  one_more_right first before last end start n from right seen asks =
      let longer : n + 1 - start ≡ (n - start) + 1 = omega (arith, from) in
      let Now : End → Type 0 = λ e. Asks calls before e last in
      let Seen : ℕ → Type 0 = λ k. HasSeen calls first (replicate k Right) last in
      subst Seen (sym (longer ∙ add-one (n - start))) (before, seen, subst Now right asks)

  -- All were right, where no seed is left.
  pub none_is_left : (first last : C) (start end n : ℕ) → n - start ≤ end - start → end ≤ n
      → HasSeen calls first (replicate (n - start) Right) last → AllRight calls first (end - start)
  none_is_left first last start end n few over seen =
      let same : n - start ≡ end - start = omega (arith, few, over) in
      let Seen : ℕ → Type 0 = λ k. HasSeen calls first (replicate k Right) last in
      (last, subst Seen same seen)

  -- One more order was played, and counted.
  pub one_more_counted : (first before last : C) (end : End) (orders failing cut orders' failing' cut' : ℕ)
      → ((ends : List End) × HasSeen calls first ends before × AreCounted ends orders failing cut) → Asks calls before end last
      → orders' ≡ orders + 1 → failing' ≡ failing + cond (is_wrong end) 1 0 → cut + cond (is_cut end) 1 0 ≤ cut'
      → (ends : List End) × HasSeen calls first ends last × AreCounted ends orders' failing' cut'
  one_more_counted first before last end orders failing cut orders' failing' cut' played asks longer failed was_cut =
      let counts = played.2 in
      let one_wrong : count_by is_wrong (end ∷ played.0) ≡ cond (is_wrong end) 1 0 + count_by is_wrong played.0 = sum_by-cons (λ e. cond (is_wrong e) 1 0) end played.0 in
      let one_cut : count_by is_cut (end ∷ played.0) ≡ cond (is_cut end) 1 0 + count_by is_cut played.0 = sum_by-cons (λ e. cond (is_cut e) 1 0) end played.0 in (
        end ∷ played.0,
        (before, played.1, asks),
        (
          omega (arith, longer, counts.0),
          omega (arith, failed, counts.1, one_wrong),
          omega (arith, was_cut, counts.2, one_cut),
        ),
      )
