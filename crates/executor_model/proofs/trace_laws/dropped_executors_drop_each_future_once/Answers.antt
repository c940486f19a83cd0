use Rattle.executor_model.proofs.Quiet.AfterDrop.{drops-at-rest}
use Rattle.executor_model.proofs.trace_laws.dropped_executors_drop_each_future_once.Goals as goal

pub returns : goal.returns
returns c = drops-at-rest
