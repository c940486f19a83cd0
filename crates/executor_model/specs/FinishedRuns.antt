-- A poll of a run is answered that the run is finished only as it begins, and only where the run had ended before.
use Rattle.std.specs.Prelude.{◌≡◌, ℕ, Bool, true, false, ◌++◌}
use Rattle.executor_model.specs.declared.call.By.{By}
use Rattle.executor_model.specs.declared.call.Call.TheVariants.{PollRun}
use Rattle.executor_model.specs.declared.call.Reply.TheVariants.{Finished}
use Rattle.executor_model.specs.declared.event.Event.{Event}
use Rattle.executor_model.specs.declared.event.Event.TheVariants.{CallEnded}
use Rattle.executor_model.specs.declared.step.Step.{Step}
use Rattle.executor_model.specs.declared.step.Step.TheVariants.{Begin}
use Rattle.executor_model.specs.Steps.{Machine, step, stepped}
use Rattle.executor_model.specs.Trace.{Trace, has}
use Rattle.executor_model.specs.World.{Ended, run_of}

abbrev pub says_finished : Event → Bool
says_finished (CallEnded p Finished) = true
says_finished _ = false

-- a step that tells of such an answer is the beginning of a poll of a run that had ended
abbrev pub FinishedAtOnce : Machine → Type 0
FinishedAtOnce s = (t : Step) (more : Trace) → (stepped s (step s t)).world.trace ≡ s.world.trace ++ more →
    has says_finished more ≡ true →
    (p : ℕ) × ((r : ℕ) × ((b : By) × ((t ≡ Begin p (PollRun r b)) × ((run_of s.world r).stage ≡ Ended))))
