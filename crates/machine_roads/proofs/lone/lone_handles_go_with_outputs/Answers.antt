use Rattle.machine_roads.proofs.LoneLosing.{lone_detach_loses, lone_goes_with_output}
use Rattle.machine_roads.proofs.lone.lone_handles_go_with_outputs.Goals as goal

pub returns-clause-detaches : goal.returns-clause-detaches
returns-clause-detaches g limit kind parties steps q quiet follows = lone_detach_loses limit kind parties steps q quiet follows

pub returns-clause-drops : goal.returns-clause-drops
returns-clause-drops g limit kind parties steps q quiet follows = lone_goes_with_output limit kind parties steps q quiet follows
