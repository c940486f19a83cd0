-- Lists of those who wait, each under a number above the one before.
use Rattle.std.specs.Prelude.{◌≡◌, ℕ, ◌+◌, ◌≤◌, List, [], ◌∷◌, remove, slice_get, slice_set, Option, Some, None, Result, Ok, Err}
use Rattle.waiting.specs.Waiters.{position_of, waker_in}

module _ {W : Type 0} where
  -- the numbers are from one on, and each is above the one before; the next is free
  abbrev pub Ascends : ℕ → ℕ → List (ℕ × W) → Type 0
  Ascends from next [] = from ≤ next
  Ascends from next (e ∷ es) = (from ≤ e.0) × Ascends (e.0 + 1) next es

  -- one, where there is one, before the others
  abbrev pub before : Option (ℕ × W) → List (ℕ × W) → List (ℕ × W)
  before None es = es
  before (Some e) es = e ∷ es

module _ {K : Type 0} where
  -- a list whose numbers ascend, ascends
  abbrev pub StaysAscending : List (ℕ × Option K) → List (ℕ × Option K) → Type 0
  StaysAscending old new = (from : ℕ) (next : ℕ) → Ascends from next old → Ascends from next new

  -- the waker stands for the one before in the place of its number; or that is missing
  abbrev pub HasPut : ℕ → Option K → List (ℕ × Option K) → List (ℕ × Option K) → Result (Option K) (Option K) → Type 0
  HasPut number waker old new (Ok was) = (at : ℕ) × (position_of number old ≡ Some at) × (waker_in (slice_get old at) ≡ was)
      × (new ≡ slice_set old at (number, waker)) × StaysAscending old new
  HasPut number waker old new (Err back) = (position_of number old ≡ None) × (new ≡ old) × (back ≡ waker)

  -- the entry of a number goes; or it is missing
  abbrev pub HasTaken : ℕ → List (ℕ × Option K) → List (ℕ × Option K) → Option (Option K) → Type 0
  HasTaken number old new (Some was) = (at : ℕ) × (position_of number old ≡ Some at) × (waker_in (slice_get old at) ≡ was)
      × (new ≡ remove old at) × StaysAscending old new
  HasTaken number old new None = (position_of number old ≡ None) × (new ≡ old)
