use Rattle.executor_laws.proofs.Reach.Reaching.{reaches-in-order}
use Rattle.executor_laws.proofs.laws.arrival_order_needs_fewer_ticks.Goals as goal

pub returns : goal.returns
returns c = reaches-in-order
