use Rattle.machine_roads.proofs.Calling.{waker_goes}
use Rattle.machine_roads.proofs.roads.a_waker_goes_alike.Goals as goal

pub returns : goal.returns
returns g p here below w q under follows = waker_goes p below under here w q follows
