use Rattle.machine_roads.proofs.CallsBehind.{lone_copies_behind}
use Rattle.machine_roads.proofs.LoneBehind.{lone_uses_behind, lone_waker_goes_behind, lone_wakes_behind}
use Rattle.machine_roads.proofs.lone.lone_wakers_go_on_behind.Goals as goal

pub returns-clause-uses : goal.returns-clause-uses
returns-clause-uses g limit kind parties steps q quiet follows = lone_uses_behind limit kind parties steps q quiet follows

pub returns-clause-wakes : goal.returns-clause-wakes
returns-clause-wakes g limit kind parties steps q quiet follows = lone_wakes_behind limit kind parties steps q quiet follows

pub returns-clause-copies : goal.returns-clause-copies
returns-clause-copies g limit kind parties steps q quiet follows = lone_copies_behind limit kind parties steps q quiet follows

pub returns-clause-drops : goal.returns-clause-drops
returns-clause-drops g limit kind parties steps q quiet follows = lone_waker_goes_behind limit kind parties steps q quiet follows
