use Rattle.executor_model.proofs.Table.InHands.{open-in-hands}
use Rattle.executor_model.proofs.call_laws.open_futures_are_in_hands.Goals as goal

pub returns : goal.returns
returns c = open-in-hands
