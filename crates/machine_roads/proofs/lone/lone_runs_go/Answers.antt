use Rattle.machine_roads.proofs.LoneGoes.{lone_run_goes}
use Rattle.machine_roads.proofs.lone.lone_runs_go.Goals as goal

pub returns : goal.returns
returns g limit kind parties steps q quiet follows = lone_run_goes limit kind parties steps q quiet follows
