use Rattle.executor_laws.proofs.RunReach.RunReaching.{reached-by-runs}
use Rattle.executor_laws.proofs.laws.runs_reach_futures.Goals as goal

pub returns : goal.returns
returns c = reached-by-runs
