use Rattle.std.specs.Prelude.{IsSome}
use Rattle.local_executor.proofs.entry.tick.LocalTick.look.Given as goal

-- it has its place among those that wait, where it had it before
abbrev pub invariant-loop : goal.invariant-loop
invariant-loop g l =
    (goal.iterator-loop g).can_next l.iterator' × (goal.iterator-loop g).is_finite l.iterator'
    × (IsSome l.fn.self.ticker → IsSome l.self.ticker)
