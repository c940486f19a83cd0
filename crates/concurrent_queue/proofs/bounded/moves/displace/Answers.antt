use Rattle.std.proofs.Common.{rules}
use Rattle.concurrent_queue.proofs.BoundedKeeps.{displaces}
use Rattle.concurrent_queue.proofs.bounded.moves.displace.Goals as goal

pub compare_exchange-requires : goal.compare_exchange-requires
compare_exchange-requires g c =
    (search rules, search rules, displaces _ _ _ _ _ _ _ c.requires.seen.0 c.requires.seen.1 c.requires.seen.2 c.requires.next)
