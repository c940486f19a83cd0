use Rattle.machine_roads.proofs.LoneCalls.{lone_polls, lone_waits}
use Rattle.machine_roads.proofs.lone.lone_polls_of_handles_are_polls.Goals as goal

pub returns-clause-finds : goal.returns-clause-finds
returns-clause-finds g limit kind parties steps q quiet follows = lone_polls limit kind parties steps q quiet follows

pub returns-clause-waits : goal.returns-clause-waits
returns-clause-waits g limit kind parties steps q quiet follows = lone_waits limit kind parties steps q quiet follows
