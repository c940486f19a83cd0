use Rattle.machine_roads.proofs.LoneCalls.{lone_tick_goes, lone_tick_is_made}
use Rattle.machine_roads.proofs.lone.lone_ticks_are_made_and_go.Goals as goal

pub returns-clause-makes : goal.returns-clause-makes
returns-clause-makes g limit kind parties steps q quiet follows = lone_tick_is_made limit kind parties steps q quiet follows

pub returns-clause-drops : goal.returns-clause-drops
returns-clause-drops g limit kind parties steps q quiet follows = lone_tick_goes limit kind parties steps q quiet follows
