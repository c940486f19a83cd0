use Rattle.machine_roads.proofs.CallsBehind.{lone_cancels_behind, lone_detaches_behind, lone_handle_goes_behind}
use Rattle.machine_roads.proofs.lone.lone_handles_go_on_behind.Goals as goal

pub returns-clause-cancels : goal.returns-clause-cancels
returns-clause-cancels g limit kind parties steps q quiet follows = lone_cancels_behind limit kind parties steps q quiet follows

pub returns-clause-detaches : goal.returns-clause-detaches
returns-clause-detaches g limit kind parties steps q quiet follows = lone_detaches_behind limit kind parties steps q quiet follows

pub returns-clause-drops : goal.returns-clause-drops
returns-clause-drops g limit kind parties steps q quiet follows = lone_handle_goes_behind limit kind parties steps q quiet follows
