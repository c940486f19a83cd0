use Rattle.std.specs.Prelude.{map}
use Rattle.executor_core.specs.FallingAsleep.{all_gone}
use Rattle.executor_core.proofs.RunsLeaving.{popped}
use Rattle.executor_core.proofs.runs.runs.Runs.leave.Goals as goal

pub loop-run-preserved : goal.loop-run-preserved
loop-run-preserved c =
    popped _ _ _ _ _ _ (all_gone (map (λ x. x.place) c.args.self.runs) c.args.flagged_sleepers.now) c.pop.ensures.items
    c.in-Some.is
    (c.let_go.ensures.sleepers, c.let_go.ensures.flag)
    c.loop-run.invariant
