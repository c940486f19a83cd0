use Rattle.machine_roads.proofs.Moving.{cancels_alike}
use Rattle.machine_roads.proofs.tasks.a_cancel_is_a_cancel.Goals as goal

pub returns : goal.returns
returns g s awaiter = cancels_alike s awaiter
