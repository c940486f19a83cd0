use Rattle.std.proofs.Common.{◌≡◌, ◌-◌, [], ◌∷◌, ◌++◌, length}
use Rattle.call_steps.specs.Closing.{leaking}
use Rattle.call_steps.specs.declared.reply.Reply.TheVariants as reply
use Rattle.call_steps.specs.declared.step.CallStep.TheVariants as step
use Rattle.async_executor.proofs.Turning.{Turned}
use Rattle.async_executor.proofs.executor.call_wakers.Given as goal

-- this many wakers were taken out and called, and nothing else
abbrev pub invariant-loop-nth : goal.invariant-loop-nth
invariant-loop-nth g l =
    Turned l.fn.table.entries l.table.entries l.nth × (l.table ≡ record l.fn.table { entries = l.table.entries })
    × (l.steps ≡ leaking (length l.fn.table.entries - l.nth) ++ step.End reply.Done ∷ [])
