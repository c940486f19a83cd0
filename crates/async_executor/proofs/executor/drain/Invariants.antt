use Rattle.std.proofs.Common.{◌≡◌, [], ◌∷◌}
use Rattle.call_steps.specs.declared.reply.Reply.TheVariants as reply
use Rattle.call_steps.specs.declared.step.CallStep.TheVariants as step
use Rattle.call_steps.specs.declared.step.table.ClosingStep.TheVariants as closing_step
use Rattle.async_executor.proofs.executor.drain.Given as goal

-- it goes on to drain this queue
abbrev pub invariant-loop : goal.invariant-loop
invariant-loop g l =
    (goal.iterator-loop g).can_next l.iterator' × (goal.iterator-loop g).is_finite l.iterator'
    × (l.steps ≡ step.Closing (closing_step.Drain l.fn.mark) ∷ step.End reply.Done ∷ [])
