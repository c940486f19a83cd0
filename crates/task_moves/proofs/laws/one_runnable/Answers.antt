use Rattle.task_moves.proofs.Courses.{good}
use Rattle.task_moves.proofs.laws.one_runnable.Goals as goal

pub returns : goal.returns
returns c = λ kinds. (good kinds).holds.one
