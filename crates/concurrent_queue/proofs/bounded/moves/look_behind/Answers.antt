use Rattle.std.proofs.Common.{rules}
use Rattle.concurrent_queue.proofs.BoundedKeeps.{looks_behind}
use Rattle.concurrent_queue.proofs.bounded.moves.look_behind.Goals as goal

pub load-requires : goal.load-requires
load-requires g c = (search rules, search rules, looks_behind _ _ _ _ _ c.requires.2)
