-- The drop of an output that is told of is entered: its user code begins.
use Rattle.std.specs.Prelude.{◌≡◌, ℕ, true, ◌++◌}
use Rattle.executor_model.specs.declared.op.Op.TheVariants as op
use Rattle.executor_model.specs.declared.op.UserOp.TheVariants as user_op
use Rattle.executor_model.specs.declared.step.Step.{Step}
use Rattle.executor_model.specs.Steps.{Machine, party_of, step, stepped}
use Rattle.executor_model.specs.Trace.{Trace, has, is_output_dropped}
use Rattle.call_laws.specs.UserCode.{DoesNext}

-- where a step tells that the drop of future f's output begins, its party is in that drop behind the step
abbrev pub OutputDropsAreEntered : Machine → Type 0
OutputDropsAreEntered s = (t : Step) (f : ℕ) (more : Trace) → (stepped s (step s t)).world.trace ≡ s.world.trace ++ more →
    has (is_output_dropped f) more ≡ true → DoesNext (op.User (user_op.DropOutput f)) (party_of t) (stepped s (step s t))
