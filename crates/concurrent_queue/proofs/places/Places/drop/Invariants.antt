use Rattle.std.specs.Mem.Slots.{slots_filled}
use Rattle.concurrent_queue.specs.Places.{AreLeft}
use Rattle.concurrent_queue.proofs.places.Places.drop.Given as goal

abbrev pub invariant-loop-left : goal.invariant-loop-left
invariant-loop-left g l = AreLeft (slots_filled l.closed.slots) l.at l.left

abbrev pub decreases-loop-left : goal.decreases-loop-left
decreases-loop-left g l = l.left
