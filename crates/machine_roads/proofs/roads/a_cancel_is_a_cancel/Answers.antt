use Rattle.machine_roads.proofs.Calling.{cancels}
use Rattle.machine_roads.proofs.roads.a_cancel_is_a_cancel.Goals as goal

pub returns : goal.returns
returns g p here below w q under follows = cancels p below under here w q follows
