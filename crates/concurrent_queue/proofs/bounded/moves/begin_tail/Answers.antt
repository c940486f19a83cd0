use Rattle.std.proofs.Common.{rules, []}
use Rattle.concurrent_queue.proofs.BoundedKeeps.{sees_tail}
use Rattle.concurrent_queue.proofs.bounded.moves.begin_tail.Goals as goal

pub load-requires : goal.load-requires
load-requires g c = (search rules, search rules, sees_tail _ _ _ _ _ [])
