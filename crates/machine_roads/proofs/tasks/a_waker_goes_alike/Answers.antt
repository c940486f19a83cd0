use Rattle.machine_roads.proofs.Moving.{releases_alike}
use Rattle.machine_roads.proofs.tasks.a_waker_goes_alike.Goals as goal

pub returns : goal.returns
returns g s awaiter = releases_alike s awaiter
