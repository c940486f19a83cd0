use Rattle.machine_roads.proofs.LoneTries.{lone_ticks_end}
use Rattle.machine_roads.proofs.lone.lone_polls_of_ticks_are_polls.Goals as goal

pub returns : goal.returns
returns g limit kind parties steps q quiet follows = lone_ticks_end limit kind parties steps q quiet follows
