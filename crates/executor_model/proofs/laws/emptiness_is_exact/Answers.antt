use Rattle.executor_model.proofs.Emptiness.Looking.{empties}
use Rattle.executor_model.proofs.laws.emptiness_is_exact.Goals as goal

pub returns : goal.returns
returns c = empties
