-- The drop of a future that is told of is entered: its user code begins.
use Rattle.std.specs.Prelude.{◌≡◌, ℕ, true, ◌++◌}
use Rattle.executor_model.specs.declared.op.Op.TheVariants as op
use Rattle.executor_model.specs.declared.op.UserOp.TheVariants as user_op
use Rattle.executor_model.specs.declared.step.Step.{Step}
use Rattle.executor_model.specs.Steps.{Machine, party_of, step, stepped}
use Rattle.executor_model.specs.Trace.{Trace, has, is_dropped}
use Rattle.call_laws.specs.UserCode.{DoesNext}

-- where a step tells that the drop of future f begins, its party is in that drop behind the step
abbrev pub DropsAreEntered : Machine → Type 0
DropsAreEntered s = (t : Step) (f : ℕ) (more : Trace) → (stepped s (step s t)).world.trace ≡ s.world.trace ++ more →
    has (is_dropped f) more ≡ true → DoesNext (op.User (user_op.Drop f)) (party_of t) (stepped s (step s t))
