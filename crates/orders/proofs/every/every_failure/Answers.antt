-- One more order was played, and counted.
use Rattle.std.proofs.Common.{◌≡◌, ◌+◌, ◌<◌, ◌≤◌, arith}
use Rattle.std.specs.Fn.{CalledAt}
use Rattle.orders.proofs.Seen.{one_more_counted}
use Rattle.orders.proofs.every.every_failure.Goals as goal

pub loop-alloc-preserved : goal.loop-alloc-preserved
loop-alloc-preserved g c = (
  c.play.ensures.makes,
  c.play.ensures.checks,
  omega (arith, c.in_ok-count.ensures.orders),
  λ over. (omega (arith, c.in_ok-count.ensures.orders), c.in_ok-advance.ensures.is over),
  one_more_counted (CalledAt g.C.FnMut) _ _ _ _ _ _ _ _ _ _ c.loop-alloc.invariant.4 c.in_ok-played.ensures.asks c.in_ok-count.ensures.orders c.in_ok-count.ensures.failing c.in_ok-count.ensures.cut,
)
