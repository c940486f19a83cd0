use Rattle.two_roads.proofs.TurnsTaken.{acts_take_turns}
use Rattle.two_roads.proofs.turns.acts_take_turns.Goals as goal

pub returns : goal.returns
returns g = acts_take_turns
