-- What a tick or run does once it called the waker that its poll was given.
use Rattle.std.proofs.Common.{◌≡◌, true, [], ◌∷◌, refl}
use Rattle.async_task.specs.declared.cell.Identity.{Identity}
use Rattle.call_steps.specs.Sleeping.{sleep_nowhere}
use Rattle.call_steps.specs.declared.names.TickOrRun.{TickOrRun}
use Rattle.call_steps.specs.declared.names.Waker.{Waker}
use Rattle.call_steps.specs.declared.names.Waker.TheVariants.{Task, Outside}
use Rattle.call_steps.specs.declared.reply.Reply.TheVariants as reply
use Rattle.call_steps.specs.declared.step.CallStep.TheVariants as step
use Rattle.async_executor.specs.Calling.{called_kept, CallsKept}
use Rattle.async_executor.specs.Runs.{ran}
use Rattle.async_executor.specs.Ticks.{sleeping}

-- a run that lets others go first calls it next
pub own_is_kept : (w : Waker Identity) → CallsKept w (ran true w)
own_is_kept (Task f) = tt
own_is_kept Outside = (tt, tt)

-- and then its poll is pending
pub own_was_called : (w : Waker Identity) → called_kept w (ran true w) ≡ step.End reply.Pending ∷ []
own_was_called (Task f) = refl
own_was_called Outside = refl

-- one that can't sleep with it calls it next
pub sleepers_is_kept : (who : TickOrRun (Unit {0})) (w : Waker Identity) → CallsKept w (sleep_nowhere (sleeping who w))
sleepers_is_kept who (Task f) = tt
sleepers_is_kept who Outside = (tt, tt)

-- and then its poll is pending
pub sleepers_was_called : (who : TickOrRun (Unit {0})) (w : Waker Identity)
    → called_kept w (sleep_nowhere (sleeping who w)) ≡ step.End reply.Pending ∷ []
sleepers_was_called who (Task f) = refl
sleepers_was_called who Outside = refl
