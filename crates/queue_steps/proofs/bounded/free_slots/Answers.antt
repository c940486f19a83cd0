use Rattle.std.proofs.Common.{arith}
use Rattle.queue_steps.proofs.BoundedFresh.{fresh_none, fresh_push}
use Rattle.queue_steps.proofs.bounded.free_slots.Goals as goal

pub loop-stamp-init : goal.loop-stamp-init
loop-stamp-init g c = (fresh_none c.in-Ok.slots.items c.in-Ok.ensures.items, c.in-Ok.ensures.exact)

pub loop-stamp-preserved : goal.loop-stamp-preserved
loop-stamp-preserved g c =
    let old = c.loop-stamp.invariant in (
      rw c.push_reserved.ensures.items (fresh_push c.loop-stamp.stamp c.loop-stamp.slots.items old.0),
      omega (arith, old.1, c.push_reserved.ensures.capacity),
    )
