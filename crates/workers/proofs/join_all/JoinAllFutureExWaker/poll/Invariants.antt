use Rattle.std.specs.Prelude.{vec_items}
use Rattle.workers.specs.Joining.{HaveCome, to_come}
use Rattle.workers.proofs.join_all.JoinAllFutureExWaker.poll.Given as goal

-- some outputs came, and the other tasks are left
abbrev pub invariant-loop : goal.invariant-loop
invariant-loop g l =
    (goal.iterator-loop g).can_next l.iterator' × (goal.iterator-loop g).is_finite l.iterator'
    × HaveCome (vec_items l.fn.self.outputs) (to_come l.fn.self.awaited l.fn.self.handles) (vec_items l.self.outputs) (to_come l.self.awaited l.self.handles)
