use Rattle.machine_roads.proofs.RunEnding.{drops}
use Rattle.machine_roads.proofs.roads.an_end_of_a_drop_ends_alike.Goals as goal

pub returns : goal.returns
returns g p here below w q under follows = drops p here below w q under follows
