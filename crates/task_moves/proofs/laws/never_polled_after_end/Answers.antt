use Rattle.task_moves.proofs.Courses.{good}
use Rattle.task_moves.proofs.laws.never_polled_after_end.Goals as goal

pub returns : goal.returns
returns c = λ kinds. (good kinds).before
