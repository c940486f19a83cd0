-- How the poll of a tick goes, step by step, and how ticks and runs fall asleep.
use Rattle.std.specs.Prelude.{Bool, Option, Some, None, List, [], ◌∷◌}
use Rattle.async_task.specs.declared.cell.Identity.{Identity}
use Rattle.call_steps.specs.Sleeping.{found_by_tick}
use Rattle.call_steps.specs.declared.names.Sleeping.{Sleeping}
use Rattle.call_steps.specs.declared.names.TickOrRun.{TickOrRun}
use Rattle.call_steps.specs.declared.names.TickOrRun.TheVariants.{Tick}
use Rattle.call_steps.specs.declared.names.Waker.{Waker}
use Rattle.call_steps.specs.declared.reply.Reply.TheVariants as reply
use Rattle.call_steps.specs.declared.step.CallStep.{CallStep}
use Rattle.call_steps.specs.declared.step.CallStep.TheVariants as step
use Rattle.call_steps.specs.declared.step.tick.TickStep.TheVariants as tick_step
use Rattle.async_executor.specs.declared.ticker.Slept.{Slept}
use Rattle.async_executor.specs.declared.ticker.Slept.TheVariants as slept_as

-- who falls asleep with this waker
abbrev pub sleeping : TickOrRun (Unit {0}) → Waker Identity → Sleeping Identity (Unit {0})
sleeping who w = record { waker = w; who = who }

-- what is left once the Runnable of this future was found, by one that sleeps or not
abbrev pub found_asleep : Bool → Identity → List (CallStep Identity (Unit {0}))
found_asleep sleeps f = found_by_tick sleeps (Tick tt) f

-- what is left after a search
abbrev pub searched : Waker Identity → Bool → Option Identity → List (CallStep Identity (Unit {0}))
searched w sleeps None = step.Tick (tick_step.CopyWaker (sleeping (Tick tt) w)) ∷ []
searched w sleeps (Some f) = found_asleep sleeps f

-- what is left once one slept that found nothing
abbrev pub slept : TickOrRun (Unit {0}) → Waker Identity → Slept → List (CallStep Identity (Unit {0}))
slept who w slept_as.Anew = step.Tick (tick_step.Search (sleeping who w)) ∷ []
slept who w slept_as.Still = step.End reply.Pending ∷ []
slept who w slept_as.Called = step.End reply.Pending ∷ []
slept who w slept_as.NoMemory = step.End reply.NoMemory ∷ []
