use Rattle.executor_model.proofs.Promises.OwnFutures.{acts-on-own}
use Rattle.executor_model.proofs.call_laws.wakes_and_copies_are_of_their_futures.Goals as goal

pub returns : goal.returns
returns c = acts-on-own
