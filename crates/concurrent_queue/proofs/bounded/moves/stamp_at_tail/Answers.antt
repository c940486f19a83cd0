use Rattle.std.proofs.Common.{rules}
use Rattle.concurrent_queue.proofs.BoundedKeeps.{sees_stamp_at_tail}
use Rattle.concurrent_queue.proofs.bounded.moves.stamp_at_tail.Goals as goal

pub load-requires : goal.load-requires
load-requires g c = (search rules, search rules, sees_stamp_at_tail _ _ _ _ _ _ c.requires.seen.0 c.requires.seen.1 c.requires.seen.2)
