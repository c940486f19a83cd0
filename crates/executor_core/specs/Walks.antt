-- What a walk does at a queue that it comes to.
use Rattle.std.specs.Prelude.{Bool, true, false, Option, Some, None, List, [], ◌∷◌}
use Rattle.executor_model.specs.declared.op.ListOp.TheVariants as list_op
use Rattle.executor_model.specs.declared.op.Op.{Op}
use Rattle.executor_model.specs.declared.op.Op.TheVariants as op
use Rattle.executor_model.specs.declared.op.RunPoll.{RunPoll}
use Rattle.executor_model.specs.declared.op.Source.TheVariants.{Own}
use Rattle.executor_model.specs.declared.op.StealOp.TheVariants as steal_op
use Rattle.executor_model.specs.declared.op.Then.{Then}
use Rattle.executor_model.specs.declared.op.Then.TheVariants as then
use Rattle.executor_model.specs.declared.op.TickOp.TheVariants as tick_op
use Rattle.executor_model.specs.ActsOfRuns.{asleep}
use Rattle.executor_core.specs.declared.runs.list.Found.{Found}

-- a steal goes on with a walk
abbrev pub is_walk : Then → Bool
is_walk (then.Walk at left) = true
is_walk (then.Found f) = false
is_walk (then.StealPlain f) = false
is_walk (then.Run f) = false

-- it steals from this queue; behind the last it gives the lock back, and the run falls asleep
abbrev pub goes_to : RunPoll → Option Found → List Op
goes_to x None = op.List list_op.UnlockRead ∷ op.Tick (tick_op.CopyWaker (asleep x)) ∷ []
goes_to x (Some found) = op.Steal (steal_op.Length (record {
  poll = x;
  from = Own found.run;
  then = then.Walk found.next found.left;
})) ∷ []
