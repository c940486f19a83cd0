use Rattle.executor_laws.proofs.Reach.InReach.{reaches}
use Rattle.executor_laws.proofs.laws.common_futures_are_in_reach.Goals as goal

pub returns : goal.returns
returns c = reaches c.lone_calls_end.ensures
