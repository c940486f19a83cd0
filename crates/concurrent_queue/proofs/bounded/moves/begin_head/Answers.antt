use Rattle.std.proofs.Common.{rules, []}
use Rattle.concurrent_queue.proofs.BoundedKeeps.{sees_head}
use Rattle.concurrent_queue.proofs.bounded.moves.begin_head.Goals as goal

pub load-requires : goal.load-requires
load-requires g c = (search rules, search rules, sees_head _ _ _ _ _ [])
