use Rattle.executor_laws.proofs.Fewness.AnyPoll.{takes-up-few}
use Rattle.executor_laws.proofs.laws.runs_take_few_futures.Goals as goal

pub returns : goal.returns
returns c = takes-up-few
