use Rattle.machine_roads.proofs.Calling.{handle_goes}
use Rattle.machine_roads.proofs.roads.a_handle_goes_alike.Goals as goal

pub returns : goal.returns
returns g p here below w q under follows = handle_goes p below under here w q follows
