use Rattle.machine_roads.proofs.InDrop.{lone_drop_rests}
use Rattle.machine_roads.proofs.lone.lone_drops_rest_alike.Goals as goal

pub returns : goal.returns
returns g limit kind parties steps q quiet follows = lone_drop_rests limit kind parties steps q quiet follows
