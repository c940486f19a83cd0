use Rattle.executor_laws.proofs.Wakeups.StandsRest.{some-called}
use Rattle.executor_laws.proofs.laws.some_standing_is_called.Goals as goal

pub returns : goal.returns
returns c limit kind parties steps f = some-called limit kind parties steps f
