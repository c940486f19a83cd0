use Rattle.std.proofs.Common.{rules}
use Rattle.concurrent_queue.proofs.BoundedKeeps.{takes_item}
use Rattle.concurrent_queue.proofs.bounded.moves.take.Goals as goal

pub compare_exchange-requires : goal.compare_exchange-requires
compare_exchange-requires g c =
    (search rules, search rules, takes_item _ _ _ _ _ _ _ c.requires.seen.0 c.requires.seen.1 c.requires.seen.2 c.requires.next)
