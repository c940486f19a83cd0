use Rattle.machine_roads.proofs.Calling.{empty_alike}
use Rattle.machine_roads.proofs.roads.both_say_whether_empty.Goals as goal

pub returns : goal.returns
returns g p here below w q under follows = empty_alike p below under here w q follows
