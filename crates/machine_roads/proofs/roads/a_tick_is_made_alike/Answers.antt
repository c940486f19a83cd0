use Rattle.machine_roads.proofs.Ticking.{makes_tick}
use Rattle.machine_roads.proofs.roads.a_tick_is_made_alike.Goals as goal

pub returns : goal.returns
returns g p here below w q under follows = makes_tick p here below w q under follows
