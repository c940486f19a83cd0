use Rattle.executor_laws.proofs.Cancels.Owing.{cancelled-over}
use Rattle.executor_laws.proofs.laws.cancelled_means_over.Goals as goal

pub returns : goal.returns
returns c = cancelled-over
