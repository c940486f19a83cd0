use Rattle.std.proofs.Common.{length}
use Rattle.queue_tests.proofs.ended.end.Given as goal

abbrev pub decreases-loop-number : goal.decreases-loop-number
decreases-loop-number g l = length l.left
