use Rattle.executor_laws.proofs.Queueings.Queueing.{counts-queueings}
use Rattle.executor_laws.proofs.laws.queueings_are_counted.Goals as goal

pub returns : goal.returns
returns c = counts-queueings
