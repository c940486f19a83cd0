-- A waker from outside of the executor that is told of as called is called: its user code begins.
use Rattle.std.specs.Prelude.{◌≡◌, ℕ, ◌==◌, Bool, true, false, Some, ◌++◌}
use Rattle.executor_model.specs.declared.event.Event.{Event}
use Rattle.executor_model.specs.declared.event.Event.TheVariants.{WakerCalled}
use Rattle.executor_model.specs.declared.op.Op.TheVariants as op
use Rattle.executor_model.specs.declared.op.UserOp.TheVariants as user_op
use Rattle.executor_model.specs.declared.op.Waker.TheVariants.{Outside}
use Rattle.executor_model.specs.declared.step.Step.{Step}
use Rattle.executor_model.specs.Steps.{Machine, party_of, stack, step, stepped, top}
use Rattle.executor_model.specs.Trace.{Trace, has}

-- the call of the outside waker x
abbrev pub is_outside_call : ℕ → Event → Bool
is_outside_call x (WakerCalled p o k (Outside y)) = x == y
is_outside_call x _ = false

-- where a step tells of such a call, its party stands in the user code of that waker behind the step
abbrev pub OutsideWakersAreCalled : Machine → Type 0
OutsideWakersAreCalled s = (t : Step) (x : ℕ) (more : Trace) →
    (stepped s (step s t)).world.trace ≡ s.world.trace ++ more → has (is_outside_call x) more ≡ true →
    top (stack (stepped s (step s t)) (party_of t)) ≡ Some (op.User (user_op.CallOutside x))
