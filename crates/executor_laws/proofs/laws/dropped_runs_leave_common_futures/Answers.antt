use Rattle.executor_laws.proofs.RunReach.RunDrops.{leaves-common}
use Rattle.executor_laws.proofs.laws.dropped_runs_leave_common_futures.Goals as goal

pub returns : goal.returns
returns c = leaves-common
