use Rattle.task_moves.proofs.Courses.{good, asked}
use Rattle.task_moves.proofs.laws.polls_are_asked_for.Goals as goal

pub returns : goal.returns
returns c = λ kinds. asked (good kinds)
