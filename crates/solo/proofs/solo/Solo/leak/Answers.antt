use Rattle.std.proofs.Common.{◌<◌, length, arith}
use Rattle.solo.proofs.Leaking.{goes-on}
use Rattle.solo.proofs.solo.Solo.leak.Goals as goal

pub loop-step-preserved : goal.loop-step-preserved
loop-step-preserved g c =
    let below : c.loop-step._step < length c.args.self.now.table.entries = omega (arith, c.loop-step-test.true, c.len-step-end.ensures) in
    goes-on c.args.self.now c.loop-step.self c.will_wake.new.self c.turn-waker.new.self c.turn-waker.result c.loop-step._step
    c.loop-step.invariant.0 c.loop-step.invariant.1 below c.turn-waker.ensures.table c.turn-waker.ensures.waker c.will_wake.ensures
