use Rattle.task_moves.proofs.Following.{is_abstract_task}
use Rattle.task_moves.proofs.laws.local_task_is_the_abstract_task.Goals as goal

pub returns : goal.returns
returns g c = is_abstract_task
