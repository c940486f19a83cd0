use Rattle.std.proofs.Common.{◌≡◌}
use Rattle.executor_model.specs.declared.op.RunPoll.{RunPoll}
use Rattle.executor_model.specs.ActsOfRuns.{walk}
use Rattle.executor_core.proofs.runs.list.QueueList.next.Given as goal

abbrev pub invariant-loop-left : goal.invariant-loop-left
invariant-loop-left l = (x : RunPoll) → x.run ≡ l.r → walk x l.self.runs.items l.fn.at l.fn.left
    ≡ walk x l.self.runs.items l.at l.left

abbrev pub decreases-loop-left : goal.decreases-loop-left
decreases-loop-left l = l.left
