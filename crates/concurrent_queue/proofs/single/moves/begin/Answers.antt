use Rattle.std.proofs.Common.{rules}
use Rattle.concurrent_queue.proofs.SingleKeeps.{begins}
use Rattle.concurrent_queue.proofs.single.moves.begin.Goals as goal

pub load-requires : goal.load-requires
load-requires g c = (search rules, search rules, begins _ _ _)
