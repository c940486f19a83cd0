use Rattle.plain_laws.proofs.TakesDue.{takes_due}
use Rattle.plain_laws.proofs.order.runs_take_due_futures.Goals as goal

pub returns : goal.returns
returns g c wakes choice r w p rest inside there some = takes_due wakes choice r w p rest inside there some
