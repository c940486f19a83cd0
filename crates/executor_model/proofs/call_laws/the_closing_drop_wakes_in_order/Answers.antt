use Rattle.executor_model.proofs.Table.ClosingWakes.{wakes-in-order}
use Rattle.executor_model.proofs.call_laws.the_closing_drop_wakes_in_order.Goals as goal

pub returns : goal.returns
returns c = wakes-in-order
