-- A poll of a run that has ended is answered that the run is finished, in the step that begins it, and does nothing else.
use Rattle.std.specs.Prelude.{◌≡◌, ℕ, None, [], ◌∷◌, ◌++◌}
use Rattle.executor_model.specs.declared.call.By.{By}
use Rattle.executor_model.specs.declared.call.Call.TheVariants.{PollRun}
use Rattle.executor_model.specs.declared.call.Reply.TheVariants.{Finished}
use Rattle.executor_model.specs.declared.event.Event.TheVariants.{CallBegun, CallEnded, RunPolled}
use Rattle.executor_model.specs.declared.step.Step.TheVariants.{Begin}
use Rattle.executor_model.specs.Steps.{Machine, refusal, step, stepped}
use Rattle.executor_model.specs.World.{Ended, run_of}

abbrev pub EndedIsFinished : Machine → Type 0
EndedIsFinished s = (p r : ℕ) (b : By) → refusal s (Begin p (PollRun r b)) ≡ None → (run_of s.world r).stage ≡ Ended →
    (stepped s (step s (Begin p (PollRun r b)))).world.trace
    ≡ s.world.trace ++ CallBegun p (PollRun r b) ∷ RunPolled p r ∷ CallEnded p Finished ∷ []
