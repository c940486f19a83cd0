use Rattle.machine_roads.proofs.Moving.{copies_alike}
use Rattle.machine_roads.proofs.tasks.a_copy_is_a_copy.Goals as goal

pub returns : goal.returns
returns g s awaiter = copies_alike s awaiter
