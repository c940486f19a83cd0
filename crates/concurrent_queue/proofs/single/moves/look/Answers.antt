use Rattle.std.proofs.Common.{rules}
use Rattle.concurrent_queue.proofs.SingleKeeps.{sees}
use Rattle.concurrent_queue.proofs.single.moves.look.Goals as goal

pub load-requires : goal.load-requires
load-requires g c = (search rules, search rules, sees _ _ _)
