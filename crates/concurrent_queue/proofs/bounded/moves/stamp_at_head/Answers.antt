use Rattle.std.proofs.Common.{rules}
use Rattle.concurrent_queue.proofs.BoundedKeeps.{sees_stamp_at_head}
use Rattle.concurrent_queue.proofs.bounded.moves.stamp_at_head.Goals as goal

pub load-requires : goal.load-requires
load-requires g c = (search rules, search rules, sees_stamp_at_head _ _ _ _ _ _ c.requires.seen.0 c.requires.seen.1)
