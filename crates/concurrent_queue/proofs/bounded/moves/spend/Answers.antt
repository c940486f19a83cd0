use Rattle.std.proofs.Common.{rules}
use Rattle.concurrent_queue.proofs.BoundedKeeps.{spends}
use Rattle.concurrent_queue.proofs.bounded.moves.spend.Goals as goal

pub compare_exchange-requires : goal.compare_exchange-requires
compare_exchange-requires g c = (search rules, search rules, spends _ _ _ _ _ _ _ c.requires.seen.0 c.requires.seen.1)
