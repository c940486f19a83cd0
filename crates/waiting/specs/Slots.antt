-- What each call does with the place of one value.
use Rattle.std.specs.Prelude.{◌≡◌, Bool, true, false, Option, Some, None}
use Rattle.waiting.specs.declared.slot.Slot.{Slot}
use Rattle.waiting.specs.declared.slot.Slot.TheVariants.{Empty, Waited, Full, Closed}
use Rattle.waiting.specs.declared.slot.Received.{Received}
use Rattle.waiting.specs.declared.slot.Received.TheVariants.{Value, Waits, Ended}

module _ {T : Type 0} {K : Type 0} where
  -- no value came yet, and one may
  abbrev pub is_open : Slot T K → Bool
  is_open Empty = true
  is_open (Waited _) = true
  is_open (Full _) = false
  is_open Closed = false

  -- no value is to come or to be taken any more
  abbrev pub is_shut : Slot T K → Bool
  is_shut Closed = true
  is_shut _ = false

  -- the waker of who waits
  abbrev pub waker_left : Slot T K → Option K
  waker_left (Waited waker) = Some waker
  waker_left _ = None

  -- where this waker was left and no value came
  abbrev pub waited_with : Option K → Slot T K
  waited_with (Some waker) = Waited waker
  waited_with None = Empty

  -- what the receiver found: the value, which is taken; or no value yet, and it leaves its waker; or that none is to come
  abbrev pub HasReceived : Option K → Slot T K → Slot T K → Received T K → Type 0
  HasReceived waker old new (Value value back) = (old ≡ Full value) × (new ≡ Closed) × (back ≡ waker)
  HasReceived waker old new (Waits before) = (old ≡ waited_with before) × (new ≡ waited_with waker)
  HasReceived waker old new (Ended _ back) = (old ≡ Closed) × (new ≡ Closed) × (back ≡ waker)

  -- no value is to come
  abbrev pub HasEnded : Slot T K → Slot T K → Type 0
  HasEnded (Full value) new = new ≡ Full value
  HasEnded _ new = new ≡ Closed
