use Rattle.machine_roads.proofs.LoneCalls.{lone_detaches, lone_handle_goes}
use Rattle.machine_roads.proofs.lone.lone_handles_go_alike.Goals as goal

pub returns-clause-detaches : goal.returns-clause-detaches
returns-clause-detaches g limit kind parties steps q quiet follows = lone_detaches limit kind parties steps q quiet follows

pub returns-clause-drops : goal.returns-clause-drops
returns-clause-drops g limit kind parties steps q quiet follows = lone_handle_goes limit kind parties steps q quiet follows
