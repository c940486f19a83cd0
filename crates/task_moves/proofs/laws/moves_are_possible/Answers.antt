use Rattle.task_moves.proofs.Courses.{good, few, holds_reference}
use Rattle.task_moves.proofs.laws.moves_are_possible.Goals as goal

pub returns-clause-few : goal.returns-clause-few
returns-clause-few c = λ kinds. λ kind p. few (good kinds).holds

pub returns-clause-held : goal.returns-clause-held
returns-clause-held c = λ kinds. λ kind p. holds_reference kind p (good kinds).holds
