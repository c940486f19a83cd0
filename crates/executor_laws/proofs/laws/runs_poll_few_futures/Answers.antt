use Rattle.executor_laws.proofs.Fewness.FewWalks.{runs-few}
use Rattle.executor_laws.proofs.laws.runs_poll_few_futures.Goals as goal

pub returns : goal.returns
returns c = runs-few
