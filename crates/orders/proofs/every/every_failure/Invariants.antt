use Rattle.std.specs.Prelude.{◌≡◌, ◌-◌, ◌<◌, ◌≤◌, List, false}
use Rattle.std.specs.Fn.{CalledAt}
use Rattle.orders.specs.declared.failure.End.{End}
use Rattle.orders.specs.Ends.{AreCounted, HasSeen}
use Rattle.orders.specs.Paths.{AreOver}
use Rattle.orders.proofs.every.every_failure.Given as goal

-- The orders so far are counted, and both closures may be called.
abbrev pub invariant-loop-alloc : goal.invariant-loop-alloc
invariant-loop-alloc g l =
    goal.M-IsAlwaysCallable g l.make
    × goal.C-IsAlwaysCallable g l.check
    × (l.search.orders ≤ l.fn.limit.orders)
    × (l.path.is_due ≡ false → (0 < l.search.orders) × AreOver l.path.choices.items)
    × ((ends : List End) × HasSeen (CalledAt g.C.FnMut) l.fn.check ends l.check × AreCounted ends l.search.orders l.search.failing l.search.cut)

abbrev pub decreases-loop-alloc : goal.decreases-loop-alloc
decreases-loop-alloc g l = l.fn.limit.orders - l.search.orders
