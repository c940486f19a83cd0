-- Steps of two parties, one of which makes a tick while the other spawns a future.
use Rattle.std.specs.Prelude.{◌≡◌, false, List, [], ◌∷◌}
use Rattle.executor_parts.specs.declared.mark.Mark.TheVariants.{Plain}
use Rattle.executor_model.specs.declared.call.Call.TheVariants.{NewTick, Spawn}
use Rattle.executor_model.specs.declared.call.Reply.TheVariants.{Made}
use Rattle.executor_model.specs.declared.event.Event.TheVariants.{Accepted, CallBegun, CallEnded}
use Rattle.executor_model.specs.declared.kind.Kind.TheVariants.{Owned}
use Rattle.executor_model.specs.declared.step.Hint.{Hint}
use Rattle.executor_model.specs.declared.step.Step.{Step}
use Rattle.executor_model.specs.declared.step.Step.TheVariants.{Begin, Go}
use Rattle.executor_model.specs.Steps.{run, start}
use Rattle.executor_model.specs.Trace.{Trace}

abbrev pub unrefused : Hint
unrefused = record { refused = false; same = false; start = 0 }

abbrev pub by_two : List Step
by_two = Begin 0 (Spawn Plain) ∷ Begin 1 NewTick ∷ Go 1 unrefused ∷ Go 0 unrefused ∷ Go 0 unrefused ∷ Go 0 unrefused ∷ []

abbrev pub of_two : Trace
of_two = CallBegun 0 (Spawn Plain) ∷ CallBegun 1 NewTick ∷ CallEnded 1 Made ∷ Accepted 0 0 ∷ CallEnded 0 Made ∷ []

-- on a new machine for one future, of two parties
abbrev pub TwoInterleave : Type 0
TwoInterleave = (run by_two (start 1 Owned 2)).world.trace ≡ of_two
