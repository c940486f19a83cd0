-- What a running call of slot or ring answers: the reply at which the steps of its call end on the words that it found.
use Rattle.std.specs.Prelude.{◌≡◌, Bool, if◌then◌else◌, Option, Some, None, List, [], ◌∷◌, ℕ, Result, Ok, Err}
use Rattle.queue_steps.specs.declared.errors.PushError.{PushError}
use Rattle.queue_steps.specs.declared.errors.PushError.TheVariants.{Full as FullToPush, Closed as ClosedToPush, NoMemory}
use Rattle.queue_steps.specs.declared.errors.ForcePushError.{ForcePushError}
use Rattle.queue_steps.specs.declared.errors.ForcePushError.TheVariants.{Closed as ClosedToForce, NoMemory as NoMemoryToForce}
use Rattle.queue_steps.specs.declared.errors.PopError.{PopError}
use Rattle.queue_steps.specs.declared.errors.PopError.TheVariants.{Empty as EmptyToPop, Closed as ClosedToPop}
use Rattle.queue_steps.specs.Reply.{Reply, Done, Displaced, Full, Empty, Closed, Yes, No}

-- where a call stands that has found these words, oldest first
abbrev pub turns : {Turn : Type 0} → (Turn → ℕ → Turn) → Turn → List ℕ → Turn
turns step turn [] = turn
turns step turn (found ∷ more) = turns step (step turn found) more

module _ {T : Type 0} where
  -- a push of x that ended so; a refused value comes back
  abbrev pub PushSays : T → Reply → Result (Unit {0}) (PushError T) → Type 0
  PushSays x reply (Ok _) = reply ≡ Done
  PushSays x reply (Err (FullToPush y)) = (reply ≡ Full) × (y ≡ x)
  PushSays x reply (Err (ClosedToPush y)) = (reply ≡ Closed) × (y ≡ x)
  PushSays x reply (Err (NoMemory y)) = ⊥

  -- a forced push of x
  abbrev pub ForcePushSays : T → Reply → Result (Option T) (ForcePushError T) → Type 0
  ForcePushSays x reply (Ok None) = reply ≡ Done
  ForcePushSays x reply (Ok (Some y)) = reply ≡ Displaced
  ForcePushSays x reply (Err (ClosedToForce y)) = (reply ≡ Closed) × (y ≡ x)
  ForcePushSays x reply (Err (NoMemoryToForce y)) = ⊥

  abbrev pub PopSays : Reply → Result T PopError → Type 0
  PopSays reply (Ok y) = reply ≡ Done
  PopSays reply (Err EmptyToPop) = reply ≡ Empty
  PopSays reply (Err ClosedToPop) = reply ≡ Closed

-- a call that answers yes or no
abbrev pub says : Bool → Reply
says told = if told then Yes else No
