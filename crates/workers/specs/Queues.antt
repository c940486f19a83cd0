-- Which fault each error of a queue is.
use Rattle.queue_steps.specs.declared.errors.PushError.{PushError}
use Rattle.queue_steps.specs.declared.errors.PushError.TheVariants as pushed
use Rattle.queue_steps.specs.declared.errors.ForcePushError.{ForcePushError}
use Rattle.queue_steps.specs.declared.errors.ForcePushError.TheVariants as forced
use Rattle.queue_steps.specs.declared.errors.PopError.{PopError}
use Rattle.queue_steps.specs.declared.errors.PopError.TheVariants as popped
use Rattle.workers.specs.declared.fault.Fault.{Fault}
use Rattle.workers.specs.declared.fault.Fault.TheVariants.{Full, NoMemory, Closed, Empty}

module _ {T : Type 0} where
  abbrev pub of_push : PushError T → Fault
  of_push (pushed.Full _) = Full
  of_push (pushed.Closed _) = Closed
  of_push (pushed.NoMemory _) = NoMemory

  abbrev pub of_force_push : ForcePushError T → Fault
  of_force_push (forced.Closed _) = Closed
  of_force_push (forced.NoMemory _) = NoMemory

abbrev pub of_pop : PopError → Fault
of_pop popped.Empty = Empty
of_pop popped.Closed = Closed
