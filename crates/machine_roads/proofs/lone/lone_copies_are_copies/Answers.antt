use Rattle.machine_roads.proofs.LoneCalls.{lone_copies}
use Rattle.machine_roads.proofs.lone.lone_copies_are_copies.Goals as goal

pub returns : goal.returns
returns g limit kind parties steps q quiet follows = lone_copies limit kind parties steps q quiet follows
