use Rattle.machine_roads.proofs.RunLies.{run_lies}
use Rattle.machine_roads.proofs.roads.a_run_lies_alike.Goals as goal

pub returns : goal.returns
returns g p here below w q under follows = run_lies p here below w q under follows
