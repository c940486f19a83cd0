use Rattle.executor_parts.proofs.Agreeing.{agree}
use Rattle.executor_parts.proofs.laws.sleepers_agree.Goals as goal

pub returns : goal.returns
returns g c = λ steps may. agree steps may
