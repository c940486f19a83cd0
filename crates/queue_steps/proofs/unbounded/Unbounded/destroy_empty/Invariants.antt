use Rattle.std.proofs.Common.{◌≡◌, [], length}
use Rattle.queue_steps.specs.Unbounded.{joined}
use Rattle.queue_steps.proofs.unbounded.Unbounded.destroy_empty.Given as goal

abbrev pub invariant-loop-block : goal.invariant-loop-block
invariant-loop-block g l = joined l.blocks.items ≡ []

abbrev pub decreases-loop-block : goal.decreases-loop-block
decreases-loop-block g l = length l.blocks.items
