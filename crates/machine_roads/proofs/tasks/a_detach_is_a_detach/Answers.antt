use Rattle.machine_roads.proofs.Moving.{detaches_alike}
use Rattle.machine_roads.proofs.tasks.a_detach_is_a_detach.Goals as goal

pub returns : goal.returns
returns g s awaiter = detaches_alike s awaiter
