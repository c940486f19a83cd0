use Rattle.executor_laws.proofs.Walks.Polled.{keepers-polled}
use Rattle.executor_laws.proofs.laws.keepers_can_be_polled.Goals as goal

pub returns : goal.returns
returns c = keepers-polled
