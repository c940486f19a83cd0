use Rattle.std.proofs.Common.{◌≡◌, drop}
use Rattle.executor_model.specs.Weights.{weigh}
use Rattle.executor_core.specs.Uses.{use_of}
use Rattle.executor_core.proofs.uses.is_unused_by.Given as goal

abbrev pub invariant-loop-op : goal.invariant-loop-op
invariant-loop-op l = weigh (use_of l.what) l.todo ≡ weigh (use_of l.what) (drop l.op-index l.todo)
