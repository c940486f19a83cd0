use Rattle.machine_roads.proofs.LoneTakes.{lone_leaks}
use Rattle.machine_roads.proofs.lone.lone_leaks_are_leaks.Goals as goal

pub returns : goal.returns
returns g limit kind parties steps q quiet follows = lone_leaks limit kind parties steps q quiet follows
