use Rattle.std.specs.Prelude.{◌-◌, ◌≤◌, replicate}
use Rattle.std.specs.Fn.{CalledAt}
use Rattle.orders.specs.declared.failure.End.TheVariants.{Right}
use Rattle.orders.specs.Ends.{HasSeen}
use Rattle.orders.proofs.first.first_failure_among.Given as goal

-- The orders of the seeds so far were right, and both closures may be called.
abbrev pub invariant-loop-number : goal.invariant-loop-number
invariant-loop-number g l =
    goal.M-IsAlwaysCallable g l.make
    × goal.C-IsAlwaysCallable g l.check
    × (l.number - l.fn.seeds.start ≤ l.fn.seeds.end - l.fn.seeds.start)
    × HasSeen (CalledAt g.C.FnMut) l.fn.check (replicate (l.number - l.fn.seeds.start) Right) l.check
