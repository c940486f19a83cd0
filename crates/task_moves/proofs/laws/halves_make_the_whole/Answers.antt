use Rattle.task_moves.proofs.Joining.{halves}
use Rattle.task_moves.proofs.laws.halves_make_the_whole.Goals as goal

pub returns : goal.returns
returns g c = halves
