use Rattle.executor_model.proofs.Table.Spawning.{limits}
use Rattle.executor_model.proofs.laws.the_limit_is_exact.Goals as goal

pub returns : goal.returns
returns c = limits
