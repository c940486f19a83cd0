use Rattle.executor_laws.proofs.RunOrder.Ordering.{takes-in-order}
use Rattle.executor_laws.proofs.laws.runs_take_futures_in_order.Goals as goal

pub returns : goal.returns
returns c = takes-in-order
