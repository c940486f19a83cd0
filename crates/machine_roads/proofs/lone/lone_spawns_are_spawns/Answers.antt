use Rattle.machine_roads.proofs.LoneCalls.{lone_spawns}
use Rattle.machine_roads.proofs.lone.lone_spawns_are_spawns.Goals as goal

pub returns : goal.returns
returns g limit kind parties steps q quiet follows = lone_spawns limit kind parties steps q quiet follows
