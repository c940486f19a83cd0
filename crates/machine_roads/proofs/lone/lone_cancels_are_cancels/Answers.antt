use Rattle.machine_roads.proofs.LoneCalls.{lone_cancels}
use Rattle.machine_roads.proofs.lone.lone_cancels_are_cancels.Goals as goal

pub returns : goal.returns
returns g limit kind parties steps q quiet follows = lone_cancels limit kind parties steps q quiet follows
