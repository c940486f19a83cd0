use Rattle.machine_roads.proofs.Pending.{gives}
use Rattle.machine_roads.proofs.roads.an_end_with_output_ends_alike.Goals as goal

pub returns : goal.returns
returns g p here below w q under follows = gives p here below w q under follows
