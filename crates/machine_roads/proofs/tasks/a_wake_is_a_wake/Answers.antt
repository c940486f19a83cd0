use Rattle.machine_roads.proofs.Moving.{wakes_alike}
use Rattle.machine_roads.proofs.tasks.a_wake_is_a_wake.Goals as goal

pub returns : goal.returns
returns g s awaiter = wakes_alike s awaiter
