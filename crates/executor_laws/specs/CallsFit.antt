-- That what the machine's calls see is what their steps can see.
use Rattle.std.specs.Prelude.{◌≡◌, ◌⊎◌, ℕ, true, false, Some, None, []}
use Rattle.executor_model.specs.declared.op.Op.{Op}
use Rattle.executor_model.specs.declared.step.Hint.{Hint}
use Rattle.executor_model.specs.declared.step.UserEnd.{UserEnd}
use Rattle.executor_model.specs.Doing.{act}
use Rattle.executor_model.specs.Steps.{accepts, end_of, waits}
use Rattle.executor_model.specs.World.{World, done}
use Rattle.call_steps.specs.Fitting.{Fits}
use Rattle.executor_laws.specs.SeenByCalls.{saw_of, saw_at_end}
use Rattle.executor_laws.specs.StepsOfCalls.{step_of}

-- what is done, and is no answer, sees what its step can see, or changes nothing and leads to nothing
abbrev pub ActsFit : Type 0
ActsFit = (p : ℕ) (h : Hint) (o : Op) (w : World) → waits o ≡ false → end_of (Some o) ≡ None →
    Fits (Some (step_of o)) (saw_of h o w) ⊎ (act p h o w ≡ done w [])

-- and user code that may end so ends as its step can see
abbrev pub AnswersFit : Type 0
AnswersFit = (o : Op) (e : UserEnd) → accepts o e ≡ true → Fits (Some (step_of o)) (saw_at_end e)
