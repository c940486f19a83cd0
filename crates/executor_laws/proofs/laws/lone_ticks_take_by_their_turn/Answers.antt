use Rattle.executor_laws.proofs.Reach.ByTurn.{takes-by-its-turn}
use Rattle.executor_laws.proofs.laws.lone_ticks_take_by_their_turn.Goals as goal

pub returns : goal.returns
returns c = takes-by-its-turn
