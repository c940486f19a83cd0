use Rattle.std.proofs.Common.{rules}
use Rattle.concurrent_queue.proofs.SingleKeeps.{shuts}
use Rattle.concurrent_queue.proofs.single.moves.close.Goals as goal

pub fetch_or-requires : goal.fetch_or-requires
fetch_or-requires g c = (search rules, search rules, shuts _ _ _)
