use Rattle.machine_roads.proofs.LonePolls.{lone_run_ends}
use Rattle.machine_roads.proofs.lone.lone_runs_end.Goals as goal

pub returns : goal.returns
returns g limit kind parties steps q quiet follows = lone_run_ends limit kind parties steps q quiet follows
