use Rattle.executor_laws.proofs.Placement.Placing.{stands-with-keeper}
use Rattle.executor_laws.proofs.laws.due_futures_stand_with_their_keepers.Goals as goal

pub returns : goal.returns
returns c = stands-with-keeper
