use Rattle.machine_roads.proofs.LoneCalls.{lone_uses, lone_wakes}
use Rattle.machine_roads.proofs.lone.lone_wakes_are_wakes.Goals as goal

pub returns-clause-uses : goal.returns-clause-uses
returns-clause-uses g limit kind parties steps q quiet follows = lone_uses limit kind parties steps q quiet follows

pub returns-clause-wakes : goal.returns-clause-wakes
returns-clause-wakes g limit kind parties steps q quiet follows = lone_wakes limit kind parties steps q quiet follows
