use Rattle.std.proofs.Common.{◌≡◌, map}
use Rattle.executor_model.specs.Steps as steps
use Rattle.executor_core.proofs.machine.Machine.new.Given as goal

abbrev pub invariant-loop-i : goal.invariant-loop-i
invariant-loop-i l = map (λ v. v.items) l.stacks.items ≡ steps.idle l._i
