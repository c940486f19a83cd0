-- What a run has still to do once it searched.
use Rattle.std.specs.Prelude.{Bool, ◌∷◌, []}
use Rattle.async_task.specs.declared.cell.Identity.{Identity}
use Rattle.call_steps.specs.Sleeping.{found_by_run}
use Rattle.call_steps.specs.declared.names.Waker.{Waker}
use Rattle.call_steps.specs.declared.reply.Reply.TheVariants as reply
use Rattle.call_steps.specs.declared.step.CallStep.TheVariants as step
use Rattle.async_executor.specs.declared.run.Sought.{Sought}
use Rattle.async_executor.specs.declared.run.Sought.TheVariants.{Found, Nothing, NoMemory}
use Rattle.async_executor.specs.Counted.{Counted, searcher}
use Rattle.async_executor.specs.Runs.{poll_with, Todo}

-- by one that sleeps or not, and has counted so
abbrev pub sought : Bool → Counted → Waker Identity → Sought → Todo
sought sleeps c w (Found stored) = found_by_run (searcher sleeps c) (poll_with w) stored.identity
sought sleeps c w Nothing = step.End reply.Pending ∷ []
sought sleeps c w NoMemory = step.End reply.NoMemory ∷ []
