use Rattle.std.proofs.Common.{◌+◌, ◌-◌, ◌≡◌, ◌*◌, ◌^◌, ◌≤◌}
use Rattle.queue_steps.proofs.steps.bounded.Shape.new.Given as goal

-- a power of two that is no more than twice the capacity
abbrev pub invariant-loop-mark : goal.invariant-loop-mark
invariant-loop-mark l = (1 ≤ l.mark) × (l.mark ≤ 2 * l.capacity) × (l.mark ≡ 2 ^ l.bits)

abbrev pub decreases-loop-mark : goal.decreases-loop-mark
decreases-loop-mark l = l.capacity + 1 - l.mark
