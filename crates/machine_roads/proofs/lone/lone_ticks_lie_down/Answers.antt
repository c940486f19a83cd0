use Rattle.machine_roads.proofs.LoneTicks.{lone_tick_lies}
use Rattle.machine_roads.proofs.lone.lone_ticks_lie_down.Goals as goal

pub returns : goal.returns
returns g limit kind parties steps q quiet follows = lone_tick_lies limit kind parties steps q quiet follows
