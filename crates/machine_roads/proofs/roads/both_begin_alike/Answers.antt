use Rattle.machine_roads.proofs.Calling.{begin_alike}
use Rattle.machine_roads.proofs.roads.both_begin_alike.Goals as goal

pub returns : goal.returns
returns g limit kind parties = begin_alike limit kind parties
