use Rattle.executor_core.specs.FallingAsleep.{all_gone}
use Rattle.executor_core.proofs.TicksLeaving.{popped}
use Rattle.executor_core.proofs.ticks.ticks.Ticks.leave.Goals as goal

pub loop-place-preserved : goal.loop-place-preserved
loop-place-preserved c =
    popped _ _ _ _ _ _ (all_gone c.args.self.places c.args.flagged_sleepers.now) c.pop.ensures.items c.in-Some.is
    (c.let_go.ensures.sleepers, c.let_go.ensures.flag)
    c.loop-place.invariant
