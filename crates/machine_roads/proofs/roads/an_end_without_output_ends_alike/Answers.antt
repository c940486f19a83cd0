use Rattle.machine_roads.proofs.Pending.{pends}
use Rattle.machine_roads.proofs.roads.an_end_without_output_ends_alike.Goals as goal

pub returns : goal.returns
returns g p here below w q under follows = pends p here below w q under follows
