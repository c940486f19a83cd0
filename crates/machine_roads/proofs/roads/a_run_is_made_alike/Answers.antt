use Rattle.machine_roads.proofs.RunsMade.{makes_run}
use Rattle.machine_roads.proofs.roads.a_run_is_made_alike.Goals as goal

pub returns : goal.returns
returns g p here below w q under follows = makes_run p here below w q under follows
