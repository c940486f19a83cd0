use Rattle.executor_laws.proofs.Turns.Turning.{common-reached}
use Rattle.executor_laws.proofs.laws.common_futures_are_in_reach_of_runs.Goals as goal

pub returns : goal.returns
returns c = common-reached
