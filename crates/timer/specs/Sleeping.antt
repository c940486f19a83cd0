-- What each call does with the sleepers, and with their places.
use Rattle.std.specs.Prelude.{◌≡◌, ◌+◌, ◌<◌, ℕ, min, true, false, List, [], Option, Some, None, ⊤}
use Rattle.std.specs.Duration.{as_nanos, max_nanos}
use Rattle.std.specs.declared.time.Duration.{Duration}
use Rattle.slab.specs.Slab.{Slab, Updates, get, slab_len}
use Rattle.timer.specs.Order.{IsDue, Turns, entries, never}
use Rattle.timer.specs.Places.{is_up, made_due, marked, waker_at}
use Rattle.timer.specs.declared.agenda.Turn.TheVariants as turn
use Rattle.timer.specs.declared.deadlines.Deadlines.{Deadlines}
use Rattle.timer.specs.declared.deadlines.Place.{Place}
use Rattle.timer.specs.declared.deadlines.Place.TheVariants.{Asleep, Stopped}
use Rattle.timer.specs.declared.deadlines.Looked.{Looked}
use Rattle.timer.specs.declared.deadlines.Looked.TheVariants as looked
use Rattle.timer.specs.declared.deadlines.Next.{Next}
use Rattle.timer.specs.declared.deadlines.Next.TheVariants as next

-- due this long after some time; where that is later than a duration can express, at the last time that one can
abbrev pub IsDueAfter : Duration → ℕ → Type 0
IsDueAfter duration due = (now : ℕ) × (due ≡ min (now + as_nanos duration) max_nanos)

module _ {K : Type 0} where
  -- when each sleeper is due, with its place
  abbrev pub sleepers : Deadlines K → List (ℕ × ℕ)
  sleepers s = entries s.agenda

  -- the terms stay: this many may sleep, as long as it is open
  abbrev pub SameTerms : Deadlines K → Deadlines K → Type 0
  SameTerms old new = (new.limit ≡ old.limit) × (new.is_closed ≡ old.is_closed)

  -- one more may sleep: it is open, and fewer have a place than the limit allows
  pub record HasRoom (s : Deadlines K) : Type 0 where
    pub is_open : s.is_closed ≡ false
    pub place : slab_len s.places < s.limit

  -- what a sleeper at this place found: it sleeps on until then, with its new waker there; or it is due, and has left
  abbrev pub HasLooked : ℕ → ℕ → Option K → Slab (Place K) → Slab (Place K) → Looked K → Type 0
  HasLooked place due waker old new (looked.Sleeps entry before) =
      (entry.place ≡ place) × (entry.due ≡ due) × (get old place ≡ Some (Asleep before)) × Updates old new place (Some (Asleep waker))
  HasLooked place due waker old new (looked.Due back) =
      (back ≡ waker) × (is_up (get old place) ≡ true) × Updates old new place None
  HasLooked place due waker old new (looked.Stopped back) =
      (back ≡ waker) × (get old place ≡ Some Stopped) × Updates old new place None

  -- what a driver found at this time: one that was due, and is now marked; or nobody is due yet, or sleeps, and all is as before
  abbrev pub HasTold : ℕ → Deadlines K → Deadlines K → Next K → Type 0
  HasTold now old new (next.Told waker) =
      (place : ℕ) × IsDue now place (sleepers old) (sleepers new) × Updates old.places new.places place (made_due (get old.places place))
      × (waker ≡ waker_at (get old.places place))
  HasTold now old new (next.In rest) = Turns now (sleepers old) (sleepers new) (turn.In rest) × (new.places ≡ old.places)
  HasTold now old new next.Nobody = (sleepers old ≡ []) × (old.is_closed ≡ false) × (new.places ≡ old.places)
  HasTold now old new next.Closed = (sleepers old ≡ []) × (old.is_closed ≡ true) × (new.places ≡ old.places)

  -- when a driver that found this looks again, at the latest: once the first is due; or once it is notified, where nobody sleeps
  abbrev pub IsWatched : ℕ → Deadlines K → Next K → Type 0
  IsWatched now new (next.In rest) = new.watched ≡ now + rest
  IsWatched now new next.Nobody = new.watched ≡ never
  IsWatched now new (next.Told waker) = ⊤
  IsWatched now new next.Closed = ⊤

  -- the first sleeper is marked as stopped, and its waker comes out; or nobody sleeps, and all is as before
  abbrev pub HasDismissed : Deadlines K → Deadlines K → Option (Option K) → Type 0
  HasDismissed old new (Some waker) =
      (place now : ℕ) × IsDue now place (sleepers old) (sleepers new)
      × Updates old.places new.places place (marked Stopped (get old.places place)) × (waker ≡ waker_at (get old.places place))
  HasDismissed old new None = (sleepers old ≡ []) × (new.places ≡ old.places)
