use Rattle.std.proofs.Common.{◌≡◌}
use Rattle.std.specs.Mem.Slots.{slots_items, slots_filled, slots_len}
use Rattle.concurrent_queue.specs.Places.{AreLeft, items_from}
use Rattle.concurrent_queue.proofs.places.take_next.Given as goal

abbrev pub invariant-loop-left : goal.invariant-loop-left
invariant-loop-left g l =
    AreLeft (slots_filled l.closed.slots) l.at l.left
    × (items_from (slots_items l.closed.slots) (slots_len l.closed.slots) l.at l.left
    ≡ items_from (slots_items l.initial.closed.slots) (slots_len l.initial.closed.slots) l.initial.at l.initial.left)

abbrev pub decreases-loop-left : goal.decreases-loop-left
decreases-loop-left g l = l.left
