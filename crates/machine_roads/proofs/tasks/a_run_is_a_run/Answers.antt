use Rattle.machine_roads.proofs.Running.{run_alike}
use Rattle.machine_roads.proofs.tasks.a_run_is_a_run.Goals as goal

pub returns : goal.returns
returns g s awaiter = run_alike s awaiter
