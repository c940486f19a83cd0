use Rattle.std.proofs.Common.{◌≡◌, [], ◌∷◌, ◌++◌, length}
use Rattle.call_steps.specs.Closing.{closing}
use Rattle.call_steps.specs.declared.reply.Reply.TheVariants as reply
use Rattle.call_steps.specs.declared.step.CallStep.TheVariants as step
use Rattle.async_executor.proofs.executor.drop_futures.Given as goal

-- as many futures are left as entries, and as many wakers are kept as came out
abbrev pub invariant-loop : goal.invariant-loop
invariant-loop g l =
    (goal.iterator-loop g).can_next l.iterator' × (goal.iterator-loop g).is_finite l.iterator'
    × (l.steps ≡ closing (length l.table.entries) (length l.leaving.wakers.items) ++ step.End reply.Done ∷ [])
