use Rattle.machine_roads.proofs.Course.{lists}
use Rattle.machine_roads.proofs.lone.lists_of_lone_calls_go_alike.Goals as goal

pub returns : goal.returns
returns g limit kind parties ls lone = lists limit kind parties ls lone
