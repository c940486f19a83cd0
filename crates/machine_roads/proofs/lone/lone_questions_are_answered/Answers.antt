use Rattle.machine_roads.proofs.LoneCalls.{lone_empty}
use Rattle.machine_roads.proofs.lone.lone_questions_are_answered.Goals as goal

pub returns : goal.returns
returns g limit kind parties steps q quiet follows = lone_empty limit kind parties steps q quiet follows
