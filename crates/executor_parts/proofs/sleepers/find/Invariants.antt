use Rattle.std.proofs.Common.{◌≡◌, ◌≤◌, None, length, drop}
use Rattle.executor_parts.specs.Sleepers.{position_of}
use Rattle.executor_parts.proofs.sleepers.find.Given as goal

abbrev pub decreases-loop-at : goal.decreases-loop-at
decreases-loop-at g l = l.at

abbrev pub invariant-loop-at : goal.invariant-loop-at
invariant-loop-at g l = record {
  within : l.at ≤ length l.wakers;
  past : position_of l.number (drop l.at l.wakers) ≡ None;
}
