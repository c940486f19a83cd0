use Rattle.machine_roads.proofs.CallsBehind.{lone_detach_loses_behind, lone_goes_with_output_behind}
use Rattle.machine_roads.proofs.lone.lone_handles_go_with_outputs_behind.Goals as goal

pub returns-clause-detaches : goal.returns-clause-detaches
returns-clause-detaches g limit kind parties steps q quiet follows = lone_detach_loses_behind limit kind parties steps q quiet follows

pub returns-clause-drops : goal.returns-clause-drops
returns-clause-drops g limit kind parties steps q quiet follows = lone_goes_with_output_behind limit kind parties steps q quiet follows
