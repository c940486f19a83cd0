-- What a contract sees of `Waiters`, and what each section does with them.
use Rattle.std.specs.Prelude.{◌≡◌, ℕ, ◌+◌, ◌==◌, true, false, List, [], ◌∷◌, ◌++◌, drop, remove, slice_get, slice_set, Option, Some, None}
use Rattle.std.specs.Prelude.{refl, Vec}
use Rattle.waiting.specs.declared.waiters.Looked.{Looked}
use Rattle.waiting.specs.declared.waiters.Looked.TheVariants as looked
use Rattle.waiting.specs.declared.waiters.Looked.TheVariants.{Waits}
use Rattle.waiting.specs.declared.waiters.Left.{Left}
use Rattle.waiting.specs.declared.waiters.Left.TheVariants as left
use Rattle.waiting.specs.declared.waiters.Left.TheVariants.{Untold}
use Rattle.std.specs.Coded.{Coded, code_by, coded×, coded_ℕ, coded_list, coded_option}

pub record Waiters (K : Type 0) : Type 0 where
  -- the number of the next listener
  pub next : ℕ
  -- the listeners that weren't notified, each with the waker that it left last, in the order in which they came
  pub waiting : List (ℕ × Option K)

-- stored as the tuple of its fields
abbrev pub waiters_code : {K : Type 0} → Coded K → Coded (Waiters K)
waiters_code {K} waker =
    code_by
    (ℕ × List (ℕ × Option K))
    (coded× coded_ℕ (coded_list (coded× coded_ℕ (coded_option waker))))
    (λ w. (w.next, w.waiting))
    (λ p. record { next = p.0; waiting = p.1 })
    (λ _. refl)

-- a place past the head, or the head's
abbrev pub later : Option ℕ → Option ℕ → Option ℕ
later (Some at) here = Some (at + 1)
later None here = here

module _ {W : Type 0} where
  -- where the last entry of a number is
  abbrev pub position_of : ℕ → List (ℕ × W) → Option ℕ
  position_of number [] = None
  position_of number (e ∷ es) = later (position_of number es) (elim (number == e.0) [ true ↦ Some 0 | false ↦ None ])

module _ {K : Type 0} where
  -- the waker of the first waiter
  abbrev pub first_waker : List (ℕ × Option K) → Option (Option K)
  first_waker [] = None
  first_waker (e ∷ _) = Some e.1

  abbrev pub waker_in : Option (ℕ × Option K) → Option K
  waker_in None = None
  waker_in (Some e) = e.1

  -- one more listens
  abbrev pub listened : Waiters K → Waiters K
  listened w = record { next = w.next + 1; waiting = w.waiting ++ (w.next, None) ∷ [] }

  -- the first waiter was notified
  abbrev pub told : Waiters K → Waiters K
  told w = record w { waiting = drop 1 w.waiting }

  -- the entry at this place, if it is one, goes
  abbrev pub without : Option ℕ → Waiters K → Waiters K
  without None w = w
  without (Some at) w = record w { waiting = remove w.waiting at }

  -- what a waiter found: its place, where the new waker stands for the old one; or it has none, and was notified
  abbrev pub HasLooked : ℕ → Option K → Waiters K → Waiters K → Looked K → Type 0
  HasLooked number waker old new (Waits listening before) = (at : ℕ) × (position_of number old.waiting ≡ Some at)
      × (waker_in (slice_get old.waiting at) ≡ before) × (listening.number ≡ number)
      × (new ≡ record old { waiting = slice_set old.waiting at (number, waker) })
  HasLooked number waker old new (looked.Told _ back) = (position_of number old.waiting ≡ None) × (new ≡ old) × (back ≡ waker)

  -- how a waiter left: its entry went; or it has none, and was notified
  abbrev pub HasLeft : ℕ → Waiters K → Waiters K → Left K → Type 0
  HasLeft number old new (Untold waker) = (at : ℕ) × (position_of number old.waiting ≡ Some at)
      × (waker_in (slice_get old.waiting at) ≡ waker) × (new ≡ record old { waiting = remove old.waiting at })
  HasLeft number old new (left.Told _) = (position_of number old.waiting ≡ None) × (new ≡ old)
