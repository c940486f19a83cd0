use Rattle.executor_laws.proofs.RunReach.RunKeeps.{kept-reached}
use Rattle.executor_laws.proofs.laws.kept_futures_are_in_reach.Goals as goal

pub returns : goal.returns
returns c = kept-reached
