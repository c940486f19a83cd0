use Rattle.std.specs.Prelude.{◌≡◌}
use Rattle.call_steps.specs.Seeing.{paid, IsDue}
use Rattle.call_steps.specs.Todo.{below}
use Rattle.async_executor.specs.Steps.{of_handed}
use Rattle.async_executor.proofs.due.pay_all.Given as goal

-- what is due next is appended first, and what is behind it stays
abbrev pub invariant-loop : goal.invariant-loop
invariant-loop g l =
    (goal.iterator-loop g).can_next l.iterator' × (goal.iterator-loop g).is_finite l.iterator'
    × IsDue (of_handed l.next) l.steps × (paid (of_handed l.next) l.steps ≡ below l.fn.steps)
