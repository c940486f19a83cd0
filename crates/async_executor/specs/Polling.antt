-- What a poll of a task has of its future.
use Rattle.std.specs.Prelude.{◌≡◌, Bool, true, false, Option, Some, None, List, ◌∷◌}
use Rattle.async_executor.specs.declared.deeds.sections.Taken.{Taken}
use Rattle.async_executor.specs.declared.deeds.task_run.Dropping.{Dropping}
use Rattle.async_task.specs.Runs.{was_closed}
use Rattle.async_task.specs.declared.cell.Identity.{Identity}
use Rattle.async_task.specs.declared.poll.Poll.{Poll}
use Rattle.async_task.specs.declared.poll.Poll.TheVariants.{Ready, Pending}
use Rattle.async_task.specs.declared.runnable.RunEnd.{RunEnd}
use Rattle.async_task.specs.declared.runnable.RunEnd.TheVariants.{Over, Pause, Drop}
use Rattle.call_steps.specs.declared.saw.Saw.{Saw}
use Rattle.call_steps.specs.declared.saw.Saw.TheVariants as saw
use Rattle.call_steps.specs.declared.step.CallStep.{CallStep}
use Rattle.call_steps.specs.declared.step.CallStep.TheVariants as step
use Rattle.call_steps.specs.declared.step.handle.HandleStep.TheVariants as handle_step
use Rattle.call_steps.specs.declared.step.table.TableStep.TheVariants as table_step
use Rattle.task_moves.specs.declared.local_task.answers.Back.{Back}
use Rattle.task_moves.specs.declared.local_task.answers.Back.TheVariants as back
use Rattle.task_moves.specs.declared.moves.owed.Move.{Move}
use Rattle.task_moves.specs.declared.moves.owed.Move.TheVariants as move

abbrev pub future_taken : {F : Type 0} → Option (Taken F) → Option F
future_taken None = None
future_taken (Some taken) = Some taken.future

abbrev pub Todo : Type 0
Todo = List (CallStep Identity (Unit {0}))

-- what a poll sees
abbrev pub poll_seen : {O : Type 0} → Poll O → Saw Identity (Unit {0})
poll_seen (Ready output) = saw.Ready
poll_seen Pending = saw.Pending

-- by which move a poll ends
abbrev pub end_of : {O : Type 0} → Poll O → Move
end_of (Ready output) = move.EndReady
end_of Pending = move.EndPending

abbrev pub end_by : {P O : Type 0} → Back P O → Move
end_by (back.Ready output) = move.EndReady
end_by (back.Pending place) = move.EndPending

-- a run that has ended is one of this task; what isn't over was polled without an output
abbrev pub IsEndOf : {P T S M W R : Type 0} → Back P T → RunEnd P T S M W R → Identity → Type 0
IsEndOf b Over f = Unit {0}
IsEndOf b (Pause pause) f = (pause.held.identity ≡ f) × (end_by b ≡ move.EndPending)
IsEndOf b (Drop place closing) f = end_by b ≡ move.EndPending

-- by which step a run ends whose future is dropped: that of a closed task by this move; that of one which nobody can reach any more
-- lets go of who awaited it
abbrev pub ended_by : Bool → Move → Identity → CallStep Identity (Unit {0})
ended_by true move f = step.Move move f
ended_by false move f = step.Handle (handle_step.LetGo f)

abbrev pub end_step : {T W R : Type 0} → Dropping T W R → Identity → CallStep Identity (Unit {0})
end_step dropping f = ended_by (was_closed dropping.closing.closed) dropping.ends.value f

-- a future is taken out to be dropped, and the run then ends by a step of its own
abbrev pub dropped_by : {T W R : Type 0} → Dropping T W R → Identity → Todo → Todo
dropped_by dropping f rest = step.Table (table_step.TakeToDrop f) ∷ end_step dropping f ∷ rest
