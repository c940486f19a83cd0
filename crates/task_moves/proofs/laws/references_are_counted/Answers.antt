use Rattle.task_moves.proofs.Courses.{good, small}
use Rattle.task_moves.proofs.laws.references_are_counted.Goals as goal

pub returns-clause-counted : goal.returns-clause-counted
returns-clause-counted c = λ kinds. (good kinds).holds.counted

pub returns-clause-small : goal.returns-clause-small
returns-clause-small c = λ kinds. small (good kinds).holds
