-- What a follower of the newest of values finds.
use Rattle.std.specs.Prelude.{◌≡◌, ◌⊎◌, ℕ, ◌<◌, ◌≤◌, Bool, true, false, Option, Some, None, Ok}
use Rattle.waiting.specs.Waiters.{Waiters}
use Rattle.async_lock.specs.Rounds.{HasLeft, HasLooked, HasSat, IsAt}
use Rattle.async_lock.specs.declared.round.Seat.{Seat}
use Rattle.async_lock.specs.declared.round.Seen.TheVariants as seen
use Rattle.async_lock.specs.declared.watch.latest.Noticed.{Noticed}
use Rattle.async_lock.specs.declared.watch.latest.Noticed.TheVariants.{Changed, Closed, Waits, NoMemory}

module _ {K : Type 0} where
  -- a version past the one that it had seen; or it had seen the newest, and waits exactly where another may come
  abbrev pub HasNoticed : ℕ → ℕ → Bool → Noticed K → Type 0
  HasNoticed seen version is_closed (Changed number _ _) = (seen < version) × (number ≡ version)
  HasNoticed seen version is_closed (Closed _ _) = (version ≤ seen) × (is_closed ≡ true)
  HasNoticed seen version is_closed (Waits _ _) = (version ≤ seen) × (is_closed ≡ false)
  HasNoticed seen version is_closed (NoMemory _) = (version ≤ seen) × (is_closed ≡ false)

  -- a change is of a version past the one that it had seen
  abbrev pub IsPast : ℕ → Noticed K → Type 0
  IsPast seen (Changed number _ _) = seen < number
  IsPast seen _ = Unit {0}

  -- it waits no more, if it waited
  abbrev pub HasLeftIf : Option Seat → ℕ → Waiters K → Waiters K → Option K → Type 0
  HasLeftIf None number old new waker = (new ≡ old) × (waker ≡ None)
  HasLeftIf (Some seat) number old new waker = HasLeft seat number old new waker

  -- it waits: on, with the new waker in the place of the old one; or the last of all, where it had no seat or its round was over
  abbrev pub WaitsBy : Option Seat → Option K → ℕ → Waiters K → Waiters K → Seat → Option K → Type 0
  WaitsBy None waker number old new again before = HasSat waker number old new (Ok again) × (before ≡ None)
  WaitsBy (Some seat) waker number old new again before = HasLooked seat number waker old new (seen.Waits again before)
      ⊎ (((at : ℕ) → ¬ IsAt seat number old at) × HasSat waker number old new (Ok again) × (before ≡ None))

  -- what it does with the waiters: one that has an answer waits no more
  abbrev pub HasMoved : Option Seat → Option K → ℕ → Waiters K → Waiters K → Noticed K → Type 0
  HasMoved seat waker number old new (Changed _ before back) = HasLeftIf seat number old new before × (back ≡ waker)
  HasMoved seat waker number old new (Closed before back) = HasLeftIf seat number old new before × (back ≡ waker)
  HasMoved seat waker number old new (Waits again before) = WaitsBy seat waker number old new again before
  HasMoved seat waker number old new (NoMemory back) = (new ≡ old) × (back ≡ waker)
