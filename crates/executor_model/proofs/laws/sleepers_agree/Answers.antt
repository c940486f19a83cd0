use Rattle.executor_model.proofs.Sleepers.SleepersFollowingExecutions.{agree}
use Rattle.executor_model.proofs.laws.sleepers_agree.Goals as goal

pub returns : goal.returns
returns g limit kind parties steps = agree limit kind parties steps
