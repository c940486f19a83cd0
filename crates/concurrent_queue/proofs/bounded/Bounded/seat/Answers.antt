use Rattle.std.proofs.Common.{rules}
use Rattle.concurrent_queue.proofs.BoundedKeeps.{enters}
use Rattle.concurrent_queue.proofs.bounded.Bounded.seat.Goals as goal

pub load_new_seat-requires : goal.load_new_seat-requires
load_new_seat-requires g c = (search rules, enters _ _ _ _)
