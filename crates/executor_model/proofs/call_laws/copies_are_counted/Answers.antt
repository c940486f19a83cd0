use Rattle.executor_model.proofs.Copies.Counted.{copies-counted}
use Rattle.executor_model.proofs.call_laws.copies_are_counted.Goals as goal

pub returns : goal.returns
returns c = copies-counted
