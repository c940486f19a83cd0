use Rattle.task_moves.proofs.Courses.{good, output_once}
use Rattle.task_moves.proofs.laws.output_goes_once.Goals as goal

pub returns : goal.returns
returns c = λ kinds. output_once (good kinds)
