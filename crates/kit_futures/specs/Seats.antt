-- What each call does with the seats of a bridge.
use Rattle.std.specs.Prelude.{◌≡◌, ◌≢◌, ⊤, ℕ, Bool, true, false, Option, Some, None, nat_eq}
use Rattle.std.specs.HashMap.{get}
use Rattle.kit_futures.specs.Turns.{number_of}
use Rattle.kit_futures.specs.declared.parts.turn.Turn.{Turn}
use Rattle.kit_futures.specs.declared.parts.seats.Seat.{Seat}
use Rattle.kit_futures.specs.declared.parts.seats.Seat.TheVariants as seat
use Rattle.kit_futures.specs.declared.parts.seats.Seats.{Seats}
use Rattle.kit_futures.specs.declared.parts.seats.Refused.{Refused}
use Rattle.kit_futures.specs.declared.parts.seats.Refused.TheVariants as refused
use Rattle.kit_futures.specs.declared.parts.seats.Woken.{Woken}
use Rattle.kit_futures.specs.declared.parts.seats.Woken.TheVariants as woken
use Rattle.kit_futures.specs.declared.parts.seats.Taken.{Taken}
use Rattle.kit_futures.specs.declared.parts.seats.Taken.TheVariants as taken
use Rattle.kit_futures.specs.declared.parts.seats.Waited.{Waited}
use Rattle.kit_futures.specs.declared.parts.seats.Waited.TheVariants as waited

-- refused because it is closed, or open and for want of memory
abbrev pub IsRefused : Bool → Refused → Type 0
IsRefused is_closed refused.NoMemory = is_closed ≡ false
IsRefused is_closed refused.Closed = is_closed ≡ true

-- a turn is of this number
abbrev pub IsTurnOf : ℕ → Taken → Type 0
IsTurnOf number (taken.Turn turn) = number_of turn ≡ number
IsTurnOf number taken.Waits = ⊤
IsTurnOf number (taken.Closed _) = ⊤

module _ {K : Type 0} where
  -- what stands at this number
  abbrev pub at : Seats K → ℕ → Option (Seat K)
  at seats number = get nat_eq seats.seats number

  -- this stands at this number now, and at each other what stood there
  abbrev pub OnlyAt : ℕ → Option (Seat K) → Seats K → Seats K → Type 0
  OnlyAt number stands old new =
      (new.is_closed ≡ old.is_closed) × (at new number ≡ stands) × ((other : ℕ) → other ≢ number → at new other ≡ at old other)

  -- at each number stands what stood there
  abbrev pub Same : Seats K → Seats K → Type 0
  Same old new = (new.is_closed ≡ old.is_closed) × ((number : ℕ) → at new number ≡ at old number)

  -- nobody waits there
  abbrev pub IsTaken : Option (Seat K) → Type 0
  IsTaken None = ⊤
  IsTaken (Some (seat.Woken _)) = ⊤
  IsTaken (Some (seat.Waits _)) = ⊥

  -- the owner of this seat waits
  abbrev pub IsWaiting : Option (Seat K) → Type 0
  IsWaiting (Some (seat.Waits _)) = ⊤
  IsWaiting (Some (seat.Woken _)) = ⊥
  IsWaiting None = ⊥

  -- the owner of this seat was woken
  abbrev pub WasWoken : Option (Seat K) → Type 0
  WasWoken (Some (seat.Woken _)) = ⊤
  WasWoken (Some (seat.Waits _)) = ⊥
  WasWoken None = ⊥

  -- the turn stands at its own number, and the waker that was left there came out; or nobody waits there, and the turn came back
  abbrev pub HasWoken : Turn → Seats K → Seats K → Woken K → Type 0
  HasWoken turn old new (woken.Waited owed) =
      (at old (number_of turn) ≡ Some (seat.Waits owed.waker)) × OnlyAt (number_of turn) (Some (seat.Woken turn)) old new
  HasWoken turn old new (woken.Gone back) = IsTaken (at old (number_of turn)) × (back ≡ turn) × Same old new

  -- the turn that stood there came out; or there is none, and all is as before
  abbrev pub HasTaken : ℕ → Seats K → Seats K → Taken → Type 0
  HasTaken number old new (taken.Turn turn) =
      (number_of turn ≡ number) × (at old number ≡ Some (seat.Woken turn)) × OnlyAt number (Some (seat.Waits None)) old new
  HasTaken number old new taken.Waits = IsWaiting (at old number) × Same old new
  HasTaken number old new (taken.Closed _) = (at old number ≡ None) × Same old new

  -- the waker was left in the place of the one before; or it has to be called, or it came back, and all is as before
  abbrev pub HasWaited : ℕ → K → Seats K → Seats K → Waited K → Type 0
  HasWaited number waker old new (waited.Left before) =
      (at old number ≡ Some (seat.Waits before)) × OnlyAt number (Some (seat.Waits (Some waker))) old new
  HasWaited number waker old new (waited.Woken owed) = WasWoken (at old number) × (owed.waker ≡ Some waker) × Same old new
  HasWaited number waker old new (waited.Closed _ back) = (at old number ≡ None) × (back ≡ waker) × Same old new
