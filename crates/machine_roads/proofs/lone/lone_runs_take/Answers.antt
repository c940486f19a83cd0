use Rattle.machine_roads.proofs.LoneTaking.{lone_run_takes}
use Rattle.machine_roads.proofs.lone.lone_runs_take.Goals as goal

pub returns : goal.returns
returns g limit kind parties steps q quiet follows = lone_run_takes limit kind parties steps q quiet follows
