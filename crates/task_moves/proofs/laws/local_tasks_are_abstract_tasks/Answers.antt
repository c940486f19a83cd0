use Rattle.task_moves.proofs.Parting.{are_abstract_tasks}
use Rattle.task_moves.proofs.laws.local_tasks_are_abstract_tasks.Goals as goal

pub returns : goal.returns
returns g c = are_abstract_tasks
