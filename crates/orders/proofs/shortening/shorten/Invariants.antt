use Rattle.std.specs.Prelude.{◌≡◌}
use Rattle.orders.proofs.shortening.shorten.Given as goal

-- It is the same failure, and both closures may be called.
abbrev pub invariant-loop-check : goal.invariant-loop-check
invariant-loop-check g l =
    goal.M-IsAlwaysCallable g l.make
    × goal.C-IsAlwaysCallable g l.check
    × (l.found.failure.number ≡ l.fn.found.failure.number)
    × (l.found.failure.end ≡ l.fn.found.failure.end)

abbrev pub decreases-loop-check : goal.decreases-loop-check
decreases-loop-check g l = l.found.untried
