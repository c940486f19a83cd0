use Rattle.task_moves.proofs.Courses.{good}
use Rattle.task_moves.proofs.laws.wakes_are_owed.Goals as goal

pub returns : goal.returns
returns c = λ kinds. (good kinds).owed
