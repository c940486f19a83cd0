use Rattle.std.proofs.Common.{◌∙◌, ap}
use Rattle.executor_core.proofs.Lifting.{items, idle-push, starts}
use Rattle.executor_core.proofs.machine.Machine.new.Goals as goal

pub loop-i-preserved : goal.loop-i-preserved
loop-i-preserved c = ap items c.in_ok-push.ensures.items ∙ idle-push c.loop-i.stacks.items c.new.result c.loop-i._i
    c.new.ensures.items
    c.loop-i.invariant

pub invariant_of-result : goal.invariant_of-result
invariant_of-result c = starts _ _ _ _ _ c.empty.ensures c.loop-i.invariant
