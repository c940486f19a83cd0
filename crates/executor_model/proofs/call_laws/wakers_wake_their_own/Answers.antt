use Rattle.executor_model.proofs.Promises.OwnWakes.{wakers-own}
use Rattle.executor_model.proofs.call_laws.wakers_wake_their_own.Goals as goal

pub returns : goal.returns
returns c = wakers-own
