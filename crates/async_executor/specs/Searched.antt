-- What is left once a run searched, which finds something, or nothing, or ends a walk as its own queue was full.
use Rattle.std.specs.Prelude.{[], ◌∷◌}
use Rattle.async_task.specs.declared.cell.Identity.{Identity}
use Rattle.task_moves.specs.declared.moves.owed.Move.TheVariants as move
use Rattle.call_steps.specs.Sleeping.{found_by_run}
use Rattle.call_steps.specs.declared.names.TickOrRun.TheVariants.{Run}
use Rattle.call_steps.specs.declared.names.Waker.{Waker}
use Rattle.call_steps.specs.declared.saw.Searcher.{Searcher}
use Rattle.call_steps.specs.declared.step.CallStep.TheVariants as step
use Rattle.call_steps.specs.declared.step.run.ListStep.TheVariants as list_step
use Rattle.call_steps.specs.declared.step.tick.TickStep.TheVariants as tick_step
use Rattle.async_executor.specs.declared.runner.Searched.{Searched}
use Rattle.async_executor.specs.declared.runner.Searched.TheVariants.{Found, Nothing, Refused}
use Rattle.async_executor.specs.Runs.{poll_with, Todo}
use Rattle.async_executor.specs.Ticks.{sleeping}

-- what was refused is dropped, and it searches anew
abbrev pub searched : Searcher → Waker Identity → Searched → Todo
searched at w Nothing = step.Tick (tick_step.CopyWaker (sleeping (Run tt) w)) ∷ []
searched at w (Found r) = found_by_run at (poll_with w) r.identity
searched at w (Refused r) = step.Move move.DropRunnable r.identity ∷ step.Tick (tick_step.Search (sleeping (Run tt) w)) ∷ []

-- the list's lock is given back first
abbrev pub walked : Searcher → Waker Identity → Searched → Todo
walked at w s = step.List list_step.UnlockRead ∷ searched at w s
