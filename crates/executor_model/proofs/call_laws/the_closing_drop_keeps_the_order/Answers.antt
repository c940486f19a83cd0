use Rattle.executor_model.proofs.Table.Closing.{drops-in-order}
use Rattle.executor_model.proofs.call_laws.the_closing_drop_keeps_the_order.Goals as goal

pub returns : goal.returns
returns c = drops-in-order
