use Rattle.executor_model.proofs.Promises.OutsideCalls.{outside-wakers}
use Rattle.executor_model.proofs.call_laws.outside_wakers_are_called.Goals as goal

pub returns : goal.returns
returns c = outside-wakers
