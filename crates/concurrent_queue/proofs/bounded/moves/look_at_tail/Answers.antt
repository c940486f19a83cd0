use Rattle.std.proofs.Common.{rules}
use Rattle.concurrent_queue.proofs.BoundedKeeps.{looks_at_tail}
use Rattle.concurrent_queue.proofs.bounded.moves.look_at_tail.Goals as goal

pub load-requires : goal.load-requires
load-requires g c = (search rules, search rules, looks_at_tail _ _ _ _ _)
