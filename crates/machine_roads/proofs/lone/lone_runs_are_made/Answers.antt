use Rattle.machine_roads.proofs.LoneTakes.{lone_run_is_made}
use Rattle.machine_roads.proofs.lone.lone_runs_are_made.Goals as goal

pub returns : goal.returns
returns g limit kind parties steps q quiet follows = lone_run_is_made limit kind parties steps q quiet follows
