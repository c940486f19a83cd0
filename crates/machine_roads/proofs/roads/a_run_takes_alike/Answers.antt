use Rattle.machine_roads.proofs.RunSearching.{run_takes}
use Rattle.machine_roads.proofs.roads.a_run_takes_alike.Goals as goal

pub returns : goal.returns
returns g p here below w q under follows = run_takes p here below w q under follows
