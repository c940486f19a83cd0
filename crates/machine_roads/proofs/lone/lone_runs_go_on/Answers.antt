use Rattle.machine_roads.proofs.LoneRunPolls.{lone_run_goes_on}
use Rattle.machine_roads.proofs.lone.lone_runs_go_on.Goals as goal

pub returns : goal.returns
returns g limit kind parties steps q quiet follows = lone_run_goes_on limit kind parties steps q quiet follows
