use Rattle.machine_roads.proofs.Trying.{tries}
use Rattle.machine_roads.proofs.roads.a_try_is_a_try.Goals as goal

pub returns : goal.returns
returns g p here below w q under follows = tries p here below w q under follows
