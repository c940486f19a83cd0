use Rattle.machine_roads.proofs.LyingDown.{polls_tick}
use Rattle.machine_roads.proofs.roads.a_tick_is_polled_alike.Goals as goal

pub returns : goal.returns
returns g p here below w q under follows = polls_tick p here below w q under follows
