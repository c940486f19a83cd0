use Rattle.executor_model.proofs.Sleepers.SleepersTellingExecutions.{are_told}
use Rattle.executor_model.proofs.laws.sleepers_are_told.Goals as goal

pub returns : goal.returns
returns g limit kind parties steps = are_told limit kind parties steps
