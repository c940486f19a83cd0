use Rattle.machine_roads.proofs.Calling.{detaches}
use Rattle.machine_roads.proofs.roads.a_detach_is_a_detach.Goals as goal

pub returns : goal.returns
returns g p here below w q under follows = detaches p below under here w q follows
