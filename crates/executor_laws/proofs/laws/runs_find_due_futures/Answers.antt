use Rattle.executor_laws.proofs.Walks.Arriving.{finds-due}
use Rattle.executor_laws.proofs.laws.runs_find_due_futures.Goals as goal

pub returns : goal.returns
returns c = finds-due
