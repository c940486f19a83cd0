-- What a contract sees of a queue that threads share, and what its calls may answer whatever other calls come between:
-- the value that comes back is the one that was given, only a bounded queue is full or gives an item for another, and
-- only an unbounded one runs out of memory.
use Rattle.std.specs.Prelude.{◌≡◌, ℕ, Option, Some, None, IsSome, Result, Ok, Err}
use Rattle.queue_steps.specs.declared.errors.PushError.{PushError}
use Rattle.queue_steps.specs.declared.errors.PushError.TheVariants.{Full, Closed, NoMemory}
use Rattle.queue_steps.specs.declared.errors.ForcePushError.{ForcePushError}
use Rattle.queue_steps.specs.declared.errors.ForcePushError.TheVariants.{Closed as ClosedToForce, NoMemory as NoMemoryToForce}

pub record SharedQueue : Type 0 where
  -- none where it is unbounded
  pub capacity : Option ℕ

module _ {T : Type 0} where
  -- a push of x on a queue of this capacity
  abbrev pub MayPush : Option ℕ → T → Result (Unit {0}) (PushError T) → Type 0
  MayPush capacity x (Ok _) = Unit {0}
  MayPush capacity x (Err (Full y)) = IsSome capacity × (y ≡ x)
  MayPush capacity x (Err (Closed y)) = y ≡ x
  MayPush capacity x (Err (NoMemory y)) = (capacity ≡ None) × (y ≡ x)

  -- a forced push of x
  abbrev pub MayForcePush : Option ℕ → T → Result (Option T) (ForcePushError T) → Type 0
  MayForcePush capacity x (Ok None) = Unit {0}
  MayForcePush capacity x (Ok (Some y)) = IsSome capacity
  MayForcePush capacity x (Err (ClosedToForce y)) = y ≡ x
  MayForcePush capacity x (Err (NoMemoryToForce y)) = (capacity ≡ None) × (y ≡ x)
