use Rattle.machine_roads.proofs.LoneCalls.{lone_waker_goes}
use Rattle.machine_roads.proofs.lone.lone_wakers_go_alike.Goals as goal

pub returns : goal.returns
returns g limit kind parties steps q quiet follows = lone_waker_goes limit kind parties steps q quiet follows
