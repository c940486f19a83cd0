-- A walk goes round the runs in the order in which others look at their own queues, from the place on that its starting word names.
use Rattle.std.proofs.Common.{◌≡◌, ℕ, zero, suc, ◌+◌, ◌%◌, ◌<◌, ◌≤◌, nat_lt, Bool, true, false, List, [], ◌∷◌, ◌++◌, length, map, take}
use Rattle.std.proofs.Common.{drop, mod-lt, slice_get, Option, Some, None, refl, sym, ap, subst, ◌∙◌, arith}
use Rattle.std.proofs.lemmas.Bool.Decides.{nat_tests}
use Rattle.solo.specs.declared.own_queues.Own.{Own}
use Rattle.solo.specs.Cells.{choose}
use Rattle.solo.specs.OwnQueues as own
use Rattle.plain_scheduler.specs.Usual.{from_start}
use Rattle.solo_laws.proofs.Choices.Robbing.{visited}

module _ {A : Type 0} where
  take_short : (n : ℕ) (xs ys : List A) → n ≤ length xs → take n (xs ++ ys) ≡ take n xs
  take_short zero xs ys few = refl
  take_short (suc n) [] ys few = absurd (omega (arith, few))
  take_short (suc n) (x ∷ xs) ys few = ap (λ zs. x ∷ zs) (take_short n xs ys (omega (arith, few)))

  take_past : (n : ℕ) (xs ys : List A) → take (length xs + n) (xs ++ ys) ≡ xs ++ take n ys
  take_past n [] ys = ap (λ m. take m ys) (zero_more n)
    where
      zero_more : (n : ℕ) → 0 + n ≡ n
      zero_more n = omega arith
  take_past n (x ∷ xs) ys =
      ap (λ m. take m (x ∷ (xs ++ ys))) (next (length xs)) ∙ ap (λ zs. x ∷ zs) (take_past n xs ys)
    where
      next : (m : ℕ) → suc m + n ≡ suc (m + n)
      next m = omega arith

  drop_one : (at : ℕ) (xs : List A) (x : A) → slice_get xs at ≡ Some x → drop at xs ≡ x ∷ drop (suc at) xs
  drop_one zero [] x is = absurd cc
  drop_one (suc at) [] x is = absurd cc
  drop_one zero (y ∷ xs) x is = ap (λ z. z ∷ xs) (some_same is)
    where
      some_same : Some y ≡ Some x → y ≡ x
      some_same is = ap (λ (o : Option A). elim o [ None ↦ x | Some z ↦ z ]) is
  drop_one (suc at) (y ∷ xs) x is = drop_one at xs x is

  drop_all : (n : ℕ) (xs : List A) → length xs ≤ n → drop n xs ≡ []
  drop_all zero [] few = refl
  drop_all (suc n) [] few = refl
  drop_all zero (x ∷ xs) few = absurd (omega (arith, few))
  drop_all (suc n) (x ∷ xs) few = drop_all n xs (omega (arith, few))

  drop_length : (n : ℕ) (xs : List A) → n ≤ length xs → length (drop n xs) + n ≡ length xs
  drop_length zero xs few = omega arith
  drop_length (suc n) [] few = absurd (omega (arith, few))
  drop_length (suc n) (x ∷ xs) few = let rest = drop_length n xs (omega (arith, few)) in omega (arith, rest)

module _ (queues : List Own) (order : List ℕ)
    (there : (at : ℕ) → at < length order → slice_get order at ≡ Some (own.number_at at queues)) where
  abbrev round_from : ℕ → List ℕ
  round_from at = drop at order ++ order

  goes_round : (places at : ℕ) → at < length order → places + at ≤ length order + length order
      → visited queues (length order) places at ≡ take places (round_from at)
  goes_round zero at inside few = refl
  goes_round (suc places) at inside few =
      ap (λ ks. own.number_at at queues ∷ ks)
      (by (nat_lt (at + 1) (length order)) refl (λ at inside few. goes_round places at inside few))
      ∙ sym (ap (λ xs. take (suc places) (xs ++ order)) (drop_one at order (own.number_at at queues) (there at inside)))
    where
      less : (a b : ℕ) → nat_lt a b ≡ true → a < b
      less a b is = grind (arith, nat_tests)

      more : (a b : ℕ) → nat_lt a b ≡ false → b ≤ a
      more a b is = grind (arith, nat_tests)

      next : (n : ℕ) → n + 1 ≡ suc n
      next n = omega arith

      by : (b : Bool) → nat_lt (at + 1) (length order) ≡ b
          → ((at : ℕ) → at < length order → places + at ≤ length order + length order
          → visited queues (length order) places at ≡ take places (round_from at))
          → visited queues (length order) places (choose (nat_lt (at + 1) (length order)) (at + 1) 0)
          ≡ take places (drop (suc at) order ++ order)
      by true is rest =
          let below = less (at + 1) (length order) is in
          ap (λ b. visited queues (length order) places (choose b (at + 1) 0)) is
          ∙ (rest (at + 1) below (omega (arith, few)) ∙ ap (λ n. take places (round_from n)) (next at))
      by false is rest =
          let last = more (at + 1) (length order) is in
          ap (λ b. visited queues (length order) places (choose b (at + 1) 0)) is
          ∙ (rest 0 (omega (arith, inside)) (omega (arith, few, inside, last))
          ∙ (take_short places order order (omega (arith, few, last))
          ∙ sym (ap (λ xs. take places (xs ++ order)) (drop_all (suc at) order (omega (arith, last))))))

  pub round_is : (start : ℕ) → visited queues (length order) (length order) (start % length order) ≡ from_start start order
  round_is start = by (length order) refl
    where
      at : ℕ
      at = start % length order

      by : (n : ℕ) → length order ≡ n → visited queues (length order) (length order) at ≡ drop at order ++ take at order
      by zero none = ap (λ n. visited queues (length order) n at) none ∙ sym (nothing order none at)
        where
          nothing : (ks : List ℕ) → length ks ≡ 0 → (n : ℕ) → drop n ks ++ take n ks ≡ []
          nothing [] none zero = refl
          nothing [] none (suc n) = refl
          nothing (k ∷ ks) none n = absurd (omega (arith, none))
      by (suc n) is =
          let inside : at < length order = mod-lt start (omega (arith, is)) in
          let long = drop_length at order (omega (arith, inside)) in
          goes_round (length order) at inside (omega (arith, inside))
          ∙ (ap (λ n. take n (round_from at)) (sym long) ∙ take_past at (drop at order) order)

-- so the numbers of those that others look at
numbers_get : (count : ℕ) (queues : List Own) (at : ℕ) → at < count → count ≤ length queues
    → slice_get (take count (map (λ (q : Own). q.number) queues)) at ≡ Some (own.number_at at queues)
numbers_get zero queues at inside few = absurd (omega (arith, inside))
numbers_get (suc n) [] at inside few = absurd (omega (arith, few))
numbers_get (suc n) (q ∷ queues) zero inside few = refl
numbers_get (suc n) (q ∷ queues) (suc at) inside few = numbers_get n queues at (omega (arith, inside)) (omega (arith, few))

numbers_length : (count : ℕ) (queues : List Own) → count ≤ length queues
    → length (take count (map (λ (q : Own). q.number) queues)) ≡ count
numbers_length zero queues few = refl
numbers_length (suc n) [] few = absurd (omega (arith, few))
numbers_length (suc n) (q ∷ queues) few = ap suc (numbers_length n queues (omega (arith, few)))

pub visits_in_order : (o : own.OwnQueuesValue) → o.listed ≤ length o.queues → (start : ℕ)
    → visited o.queues o.listed o.listed (start % o.listed)
    ≡ from_start start (take o.listed (map (λ (q : Own). q.number) o.queues))
visits_in_order o few start =
    let order = take o.listed (map (λ (q : Own). q.number) o.queues) in
    let long = numbers_length o.listed o.queues few in
    subst (λ n. visited o.queues n n (start % n) ≡ from_start start order) long
    (round_is o.queues order (λ at inside. numbers_get o.listed o.queues at (subst (λ n. at < n) long inside) few) start)
