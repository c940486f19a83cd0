use Rattle.solo_laws.proofs.OnceCourses.{stands_once}
use Rattle.solo_laws.proofs.laws.a_task_stands_in_one_queue.Goals as goal

pub returns : goal.returns
returns g c task limit kind calls first last = stands_once task limit kind calls first last
