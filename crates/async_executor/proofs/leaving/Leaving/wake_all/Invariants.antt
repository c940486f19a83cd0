use Rattle.std.proofs.Common.{◌≡◌, [], ◌∷◌, ◌++◌, length}
use Rattle.call_steps.specs.Closing.{closing}
use Rattle.call_steps.specs.declared.reply.Reply.TheVariants as reply
use Rattle.call_steps.specs.declared.step.CallStep.TheVariants as step
use Rattle.async_executor.proofs.leaving.Leaving.wake_all.Given as goal

-- as many wakers are left as there are
abbrev pub invariant-loop : goal.invariant-loop
invariant-loop g l =
    (goal.iterator-loop g).can_next l.iterator' × (goal.iterator-loop g).is_finite l.iterator'
    × (l.steps ≡ closing 0 (length l.self.wakers.items) ++ step.End reply.Done ∷ [])
