-- What a poll makes of one future beside others.
use Rattle.std.specs.Prelude.{◌≡◌, Bool, true, false, Option, Some, None, Result, Ok, Err}
use Rattle.waiting.specs.declared.both.Awaited.{Awaited}
use Rattle.waiting.specs.declared.both.Awaited.TheVariants.{Waiting, Done, Given}

module _ {F : Type 0} {T : Type 0} where
  -- its output is kept
  abbrev pub is_done : Awaited F T → Bool
  is_done (Done _) = true
  is_done _ = false

  -- its output hasn't come yet
  abbrev pub IsWaiting : Awaited F T → Type 0
  IsWaiting (Waiting _) = Unit {0}
  IsWaiting _ = ⊥

  -- it waits, or its output is kept
  abbrev pub IsThere : Awaited F T → Type 0
  IsThere Given = ⊥
  IsThere _ = Unit {0}

  -- a future that waited waits on, or its output is kept. An output that is kept or was given stays so
  abbrev pub GoesOn : Awaited F T → Awaited F T → Type 0
  GoesOn (Waiting _) new = IsThere new
  GoesOn old new = new ≡ old

  -- a future that waited gave this, and is gone; or none did, and one that waited waits on
  abbrev pub HasAsked : {X : Type 0} → Awaited F T → Awaited F T → Option X → Type 0
  HasAsked old new (Some _) = IsWaiting old × (new ≡ Given)
  HasAsked (Waiting _) new None = IsWaiting new
  HasAsked old new None = new ≡ old

  -- it goes on; or it waited, failed, and is gone
  abbrev pub HasTried : {E : Type 0} → Awaited F T → Awaited F T → Result (Unit {0}) E → Type 0
  HasTried old new (Ok _) = GoesOn old new
  HasTried old new (Err _) = IsWaiting old × (new ≡ Given)
