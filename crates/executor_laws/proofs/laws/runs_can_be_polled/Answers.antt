use Rattle.executor_laws.proofs.Walks.Polled.{runs-polled}
use Rattle.executor_laws.proofs.laws.runs_can_be_polled.Goals as goal

pub returns : goal.returns
returns c = runs-polled
