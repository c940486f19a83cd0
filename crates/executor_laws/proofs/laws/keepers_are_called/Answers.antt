use Rattle.executor_laws.proofs.Keepers.KeptRest.{keeper-is-called}
use Rattle.executor_laws.proofs.laws.keepers_are_called.Goals as goal

pub returns : goal.returns
returns c limit kind parties steps f = keeper-is-called limit kind parties steps f
