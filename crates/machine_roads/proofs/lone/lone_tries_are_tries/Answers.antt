use Rattle.machine_roads.proofs.LoneTries.{lone_tries_end}
use Rattle.machine_roads.proofs.lone.lone_tries_are_tries.Goals as goal

pub returns : goal.returns
returns g limit kind parties steps q quiet follows = lone_tries_end limit kind parties steps q quiet follows
