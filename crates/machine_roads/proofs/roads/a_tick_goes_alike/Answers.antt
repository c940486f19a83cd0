use Rattle.machine_roads.proofs.Ticking.{tick_goes}
use Rattle.machine_roads.proofs.roads.a_tick_goes_alike.Goals as goal

pub returns : goal.returns
returns g p here below w q under follows = tick_goes p here below w q under follows
