-- What each call does with one way of a source.
use Rattle.std.specs.Prelude.{◌≡◌, ◌+◌, ◌%◌, ◌^◌, ℕ, Bool, true, false, Option, Some, None}
use Rattle.reactor.specs.declared.parts.side.Readiness.{Readiness}
use Rattle.reactor.specs.declared.parts.side.Readiness.TheVariants.{Ready, Ended, Blocked, Waited, Closed}
use Rattle.reactor.specs.declared.parts.side.Side.{Side}
use Rattle.reactor.specs.declared.parts.side.Checked.{Checked}
use Rattle.reactor.specs.declared.parts.side.Checked.TheVariants as checked
use Rattle.reactor.specs.declared.parts.side.Looked.{Looked}
use Rattle.reactor.specs.declared.parts.side.Looked.TheVariants as looked

module _ {K : Type 0} where
  -- the waker of the waiter
  abbrev pub waker_left : Readiness K → Option K
  waker_left (Waited waker) = Some waker
  waker_left _ = None

  -- where a read or a write would have blocked, with the waker that was left
  abbrev pub waited_with : Option K → Readiness K
  waited_with (Some waker) = Waited waker
  waited_with None = Blocked

  -- an event came
  abbrev pub after_event : Readiness K → Readiness K
  after_event Closed = Closed
  after_event Ended = Ended
  after_event _ = Ready

  -- the last event came
  abbrev pub after_last : Readiness K → Readiness K
  after_last Closed = Closed
  after_last _ = Ended

  -- a read or a write would have blocked, or the next would
  abbrev pub after_block : Readiness K → Readiness K
  after_block Ready = Blocked
  after_block other = other

  abbrev pub rung : Side K → Side K
  rung side = record { tick = (side.tick + 1) % 2 ^ 64; readiness = after_event side.readiness }

  abbrev pub ended : Side K → Side K
  ended side = record { tick = (side.tick + 1) % 2 ^ 64; readiness = after_last side.readiness }

  abbrev pub emptied : Side K → Side K
  emptied side = record side { readiness = after_block side.readiness }

  abbrev pub closed : Side K → Side K
  closed side = record side { readiness = Closed }

  -- a read or a write would have blocked, whether a waiter is there or not
  abbrev pub is_blocked : Readiness K → Bool
  is_blocked Blocked = true
  is_blocked (Waited _) = true
  is_blocked Ready = false
  is_blocked Ended = false
  is_blocked Closed = false

  -- a read or a write is worth a try
  abbrev pub is_ready : Readiness K → Bool
  is_ready Ready = true
  is_ready Ended = true
  is_ready Blocked = false
  is_ready (Waited _) = false
  is_ready Closed = false

  -- it is ready or closed, or neither
  abbrev pub HasChecked : Side K → Checked → Type 0
  HasChecked side (checked.Ready ready) = (is_ready side.readiness ≡ true) × (ready.tick ≡ side.tick)
  HasChecked side checked.Blocked = is_blocked side.readiness ≡ true
  HasChecked side (checked.Closed _) = side.readiness ≡ Closed

  -- a waiter found it ready or closed, and all is as before; or it has left its waker in the place of the one before
  abbrev pub HasLooked : K → Side K → Side K → Looked K → Type 0
  HasLooked waker old new (looked.Ready ready back) =
      (is_ready old.readiness ≡ true) × (new ≡ old) × (ready.tick ≡ old.tick) × (back ≡ waker)
  HasLooked waker old new (looked.Waits _ before) =
      (old.readiness ≡ waited_with before) × (new ≡ record old { readiness = Waited waker })
  HasLooked waker old new (looked.Closed _ back) = (old.readiness ≡ Closed) × (new ≡ old) × (back ≡ waker)
