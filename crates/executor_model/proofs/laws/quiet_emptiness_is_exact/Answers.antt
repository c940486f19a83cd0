use Rattle.executor_model.proofs.Emptiness.Quieting.{quiet-empties}
use Rattle.executor_model.proofs.laws.quiet_emptiness_is_exact.Goals as goal

pub returns : goal.returns
returns c = quiet-empties
