use Rattle.machine_roads.proofs.LoneCloses.{lone_drop_ends}
use Rattle.machine_roads.proofs.lone.lone_drops_are_drops.Goals as goal

pub returns : goal.returns
returns g limit kind parties steps q quiet follows = lone_drop_ends limit kind parties steps q quiet follows
