use Rattle.executor_core.proofs.Lifting.{run-more}
use Rattle.executor_core.proofs.machine.Machine.run_on.Goals as goal

pub loop-i-preserved : goal.loop-i-preserved
loop-i-preserved c =
    (run-more _ _ _ _ _ _ c.loop-i-test.true c.loop-i.invariant.0 c.in-Ok.ensures.ok, c.in-Ok.ensures.reached)
