-- What changes of the sleepers do to their flag: nobody sleeps, or a sleeper has no waker left.
use Rattle.std.proofs.Common.{◌≡◌, ◌⊎◌, ℕ, ◌+◌, ◌-◌, ◌<◌, ◌≤◌, ◌==◌, ◌||◌, nat_lt, Bool, true, false, List, ◌∷◌, [], ◌++◌, length}
use Rattle.std.proofs.Common.{Option, Some, None, remove, refl, arith}
use Rattle.std.proofs.lemmas.Bool.Decides.{nat_tests}
use Rattle.std.proofs.lemmas.List.{length-take}
use Rattle.std.proofs.lemmas.List.Edits.{length-remove}
use Rattle.executor_parts.specs.Sleepers.{Sleepers, flag_of, without_last, without_entry, freed, woken_up, waker_of, waker_at, waker_in}
use Rattle.executor_parts.specs.Sleepers.{position_of, later}

flag_below : (m n count : ℕ) → m ≤ n - 1 → n ≤ count → ((count == 0) || nat_lt m count) ≡ true
flag_below m n count short within = grind (arith, nat_tests)

pub flag_says : (m count : ℕ) → ((count == 0) || nat_lt m count) ≡ true → (count ≡ 0) ⊎ (m < count)
flag_says m count flag = grind (arith, nat_tests)

flag_less : (m n count : ℕ) → m + 1 ≡ n → n ≤ count → ((count == 0) || nat_lt n count) ≡ true → nat_lt m count ≡ true
flag_less m n count less within flag = grind (arith, nat_tests)

flag_after : (m n count : ℕ) → m + 1 ≡ n → n ≤ count → ((count == 0) || nat_lt n count) ≡ true
    → ((count - 1 == 0) || nat_lt m (count - 1)) ≡ true
flag_after m n count less within flag = grind (arith, nat_tests)

below_later : (o : Option ℕ) (here : Option ℕ) (n at : ℕ) → ((k : ℕ) → o ≡ Some k → k < n) → ((k : ℕ) → here ≡ Some k → k ≡ 0)
    → later o here ≡ Some at → at < n + 1
below_later (Some k) here n at inside first is =
    let less = inside k refl in let same : k + 1 ≡ at = cc in omega (arith, less, same)
below_later None here n at inside first is = let zero_is = first at is in omega (arith, zero_is)

first_here : (b : Bool) (k : ℕ) → elim b [ true ↦ Some 0 | false ↦ None ] ≡ Some k → k ≡ 0
first_here true k is = cc
first_here false k is = absurd cc

module _ {W : Type 0} where
  -- no more have a waker than sleep
  abbrev pub Fits : Sleepers W → Type 0
  Fits s = length s.wakers ≤ s.count

  shorter : (s : Sleepers W) → length (without_last s).wakers ≤ length s.wakers - 1
  shorter s = let is = length-take (length s.wakers - 1) s.wakers in omega (arith, is)

  pub last_fits : (s : Sleepers W) → Fits s → Fits (without_last s)
  last_fits s fits = let short = shorter s in omega (arith, short, fits)

  pub last_flag : (s : Sleepers W) → Fits s → flag_of (without_last s) ≡ true
  last_flag s fits = flag_below (length (without_last s).wakers) (length s.wakers) s.count (shorter s) fits

  pub position_below : (number : ℕ) (wakers : List (ℕ × W)) (at : ℕ) → position_of number wakers ≡ Some at → at < length wakers
  position_below number [] at is = absurd cc
  position_below number (e ∷ es) at is =
      let below =
      below_later (position_of number es) (elim (number == e.0) [ true ↦ Some 0 | false ↦ None ]) (length es) at
      (position_below number es) (first_here (number == e.0)) is in
      omega (arith, below)

  freed_fits_by : (b : Bool) (number : ℕ) (s : Sleepers W) → Fits s → nat_lt (length s.wakers) s.count ≡ b
      → Fits (elim b [ true ↦ record s { count = s.count - 1; free = s.free ++ number ∷ [] } | false ↦ s ])
  freed_fits_by true number s fits is = grind (arith, nat_tests)
  freed_fits_by false number s fits is = fits

  entry_fits : (at : Option ℕ) (number : ℕ) (s : Sleepers W) → position_of number s.wakers ≡ at → Fits s → Fits (without_entry at s)
  entry_fits None number s is fits = fits
  entry_fits (Some at) number s is fits =
      let less = length-remove s.wakers at (position_below number s.wakers at is) in omega (arith, less, fits)

  pub woken_fits : (number : ℕ) (s : Sleepers W) → Fits s → Fits (woken_up number s)
  woken_fits number s fits =
      let rest : Sleepers W = without_entry (position_of number s.wakers) s in
      freed_fits_by (nat_lt (length rest.wakers) rest.count) number rest (entry_fits (position_of number s.wakers) number s refl fits) refl

  freed_flag_by : (b : Bool) (number : ℕ) (s : Sleepers W) → b ≡ true →
      ((s.count - 1 == 0) || nat_lt (length s.wakers) (s.count - 1)) ≡ true
      → flag_of (elim b [ true ↦ record s { count = s.count - 1; free = s.free ++ number ∷ [] } | false ↦ s ]) ≡ true
  freed_flag_by true number s is flag = flag
  freed_flag_by false number s is flag = absurd cc

  some_within : (found : Option (ℕ × W)) (w : W) → waker_in found ≡ Some w → (e : ℕ × W) × (found ≡ Some e)
  some_within (Some e) w is = (e, refl)
  some_within None w is = absurd cc

  woken_flag_by : (at : Option ℕ) (number : ℕ) (w : W) (s : Sleepers W) → position_of number s.wakers ≡ at → waker_at at s.wakers ≡ Some w
      → Fits s → flag_of s ≡ true → flag_of (freed number (without_entry at s)) ≡ true
  woken_flag_by None number w s at is fits flag = absurd cc
  woken_flag_by (Some at) number w s found is fits flag =
      let less = length-remove s.wakers at (position_below number s.wakers at found) in
      freed_flag_by (nat_lt (length (remove s.wakers at)) s.count) number (record s { wakers = remove s.wakers at })
      (flag_less (length (remove s.wakers at)) (length s.wakers) s.count less fits flag)
      (flag_after (length (remove s.wakers at)) (length s.wakers) s.count less fits flag)

  -- where one goes that had its waker still, another who is told stays
  pub woken_flag : (number : ℕ) (w : W) (s : Sleepers W) → waker_of number s.wakers ≡ Some w → Fits s → flag_of s ≡ true
      → flag_of (woken_up number s) ≡ true
  woken_flag number w s is fits flag = woken_flag_by (position_of number s.wakers) number w s refl is fits flag
