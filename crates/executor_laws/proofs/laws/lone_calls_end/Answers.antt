use Rattle.executor_laws.proofs.Termination.LoneEnds.{lone-calls-all-end}
use Rattle.executor_laws.proofs.laws.lone_calls_end.Goals as goal

pub returns : goal.returns
returns c = lone-calls-all-end
