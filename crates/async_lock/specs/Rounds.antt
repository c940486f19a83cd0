-- What each section does with those who wait for the end of a round.
use Rattle.std.specs.Prelude.{◌≡◌, ℕ, remove, slice_get, slice_set, Option, Some, None, Result, Ok, Err}
use Rattle.waiting.specs.Waiters.{Waiters, position_of, waker_in}
use Rattle.async_lock.specs.Rooms.{joined}
use Rattle.async_lock.specs.declared.round.Seat.{Seat}
use Rattle.async_lock.specs.declared.round.Seen.{Seen}
use Rattle.async_lock.specs.declared.round.Seen.TheVariants.{Waits, Over}

module _ {K : Type 0} where
  -- one more waits for the end of this round, the last of all; or there is no memory for that
  abbrev pub HasSat : Option K → ℕ → Waiters K → Waiters K → Result Seat (Option K) → Type 0
  HasSat waker number old new (Ok seat) = (new ≡ joined waker old) × (seat.round ≡ number) × (seat.listening.number ≡ old.next)
  HasSat waker number old new (Err back) = (new ≡ old) × (back ≡ waker)

  -- it waits for the end of the round that is; and is in the list, at this place
  abbrev pub IsAt : Seat → ℕ → Waiters K → ℕ → Type 0
  IsAt seat number w at = (seat.round ≡ number) × (position_of seat.listening.number w.waiting ≡ Some at)

  -- what a waiter found: its place, where the new waker stands for the old one; or the round is over
  abbrev pub HasLooked : Seat → ℕ → Option K → Waiters K → Waiters K → Seen K → Type 0
  HasLooked seat number waker old new (Waits again before) = (at : ℕ) × IsAt seat number old at
      × (waker_in (slice_get old.waiting at) ≡ before) × (again.round ≡ number) × (again.listening.number ≡ seat.listening.number)
      × (new ≡ record old { waiting = slice_set old.waiting at (seat.listening.number, waker) })
  HasLooked seat number waker old new (Over _ back) = ((at : ℕ) → ¬ IsAt seat number old at) × (new ≡ old) × (back ≡ waker)

  abbrev pub HasLeftAt : Option ℕ → Waiters K → Waiters K → Option K → Type 0
  HasLeftAt (Some at) old new waker = (new ≡ record old { waiting = remove old.waiting at }) × (waker ≡ waker_in (slice_get old.waiting at))
  HasLeftAt None old new waker = (new ≡ old) × (waker ≡ None)

  -- how a waiter left: its entry went, as if it had never come; or the round was over
  abbrev pub HasLeft : Seat → ℕ → Waiters K → Waiters K → Option K → Type 0
  HasLeft seat number old new waker = (seat.round ≡ number → HasLeftAt (position_of seat.listening.number old.waiting) old new waker)
      × (¬ (seat.round ≡ number) → (new ≡ old) × (waker ≡ None))
