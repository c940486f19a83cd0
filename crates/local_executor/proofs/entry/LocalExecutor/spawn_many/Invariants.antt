use Rattle.std.specs.Prelude.{◌≡◌, length}
use Rattle.std.specs.Iterator.{IsFinite}
use Rattle.local_executor.specs.Spawning.{HasGiven}
use Rattle.local_executor.proofs.entry.LocalExecutor.spawn_many.Given as goal

-- the caller's iterator may be asked for more, and ends; there is a new handle for each future that it gave
abbrev pub invariant-loop : goal.invariant-loop
invariant-loop g l =
    (goal.iterator-loop g).can_next l.iterator' × (goal.iterator-loop g).is_finite l.iterator'
    × g.I.Iterator.can_next l.futures × IsFinite (g.I.Iterator.remaining l.futures)
    × HasGiven g.I.Iterator.next_gives l.fn.futures l.futures (length l.fn.handles.items) (length l.handles.items)
