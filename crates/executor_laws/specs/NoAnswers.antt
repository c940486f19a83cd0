-- A try of a tick is answered no only where it has found each of the executor's queues empty, whatever others do meanwhile.
use Rattle.std.specs.Prelude.{◌≡◌, ℕ, true, Some, Ok, List, [], ◌∷◌}
use Rattle.executor_parts.specs.declared.mark.Mark.{Mark}
use Rattle.executor_parts.specs.Marks.{other}
use Rattle.executor_model.specs.declared.call.Call.{Call}
use Rattle.executor_model.specs.declared.call.Call.TheVariants.{TryTick}
use Rattle.executor_model.specs.declared.call.Reply.TheVariants.{No}
use Rattle.executor_model.specs.declared.op.Look.TheVariants.{Second}
use Rattle.executor_model.specs.declared.op.Op.TheVariants as op
use Rattle.executor_model.specs.declared.op.QueueOp.TheVariants as queue_op
use Rattle.executor_model.specs.declared.step.Hint.{Hint}
use Rattle.executor_model.specs.declared.step.Step.{Step}
use Rattle.executor_model.specs.declared.step.Step.TheVariants.{Go}
use Rattle.executor_model.specs.Calls.{Begun, calls}
use Rattle.executor_model.specs.SpawnWants.{Answers}
use Rattle.executor_model.specs.Steps.{Machine, stack, step, top}
use Rattle.executor_model.specs.World.{queue_of}
use Rattle.executor_model.specs.Trace.{Trace}
use Rattle.executor_laws.specs.LoneEnds.{is_onward_of}

-- the innermost call of party p that is in progress is this one
pub record IsIn (c : Call) (p : ℕ) (trace : Trace) : Type 0 where
  pub own : Trace
  pub outer : List Begun
  pub is : (calls p trace).begun ≡ record { call = c; own = own } ∷ outer

-- the next thing that party p does is the second look of a try of a tick, at the queue of this mark
abbrev pub LooksSecond : Mark → ℕ → Machine → Type 0
LooksSecond m p s = top (stack s p) ≡ Some (op.Queue (queue_op.Take (Second m)))

-- whatever step by which its party goes on answers it no, it is its second look, and finds that queue empty; and the step
-- that led to this look found the other one empty
pub record NoMeansEmpty (s : Machine) : Type 0 where
  pub second : (p : ℕ) (t : Step) → is_onward_of p t ≡ true → IsIn TryTick p s.world.trace → Answers s t p No →
      (m : Mark) × LooksSecond m p s × ((queue_of s.world m).items ≡ [])
  pub first : (p : ℕ) (h : Hint) (m : Mark) (new : Machine) → step s (Go p h) ≡ Ok new → LooksSecond m p new →
      (queue_of s.world (other m)).items ≡ []
