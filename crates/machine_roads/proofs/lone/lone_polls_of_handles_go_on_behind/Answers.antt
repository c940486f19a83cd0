use Rattle.machine_roads.proofs.CallsBehind.{lone_polls_behind, lone_waits_behind}
use Rattle.machine_roads.proofs.lone.lone_polls_of_handles_go_on_behind.Goals as goal

pub returns-clause-finds : goal.returns-clause-finds
returns-clause-finds g limit kind parties steps q quiet follows = lone_polls_behind limit kind parties steps q quiet follows

pub returns-clause-waits : goal.returns-clause-waits
returns-clause-waits g limit kind parties steps q quiet follows = lone_waits_behind limit kind parties steps q quiet follows
