use Rattle.std.proofs.Common.{◌<◌, length, arith}
use Rattle.async_executor.proofs.Turning.{Turned-more, kept}
use Rattle.async_executor.proofs.executor.call_wakers.Goals as goal

pub loop-nth-preserved : goal.loop-nth-preserved
loop-nth-preserved g c =
    let below : c.loop-nth.nth < length c.args.table.now.entries =
    omega (arith, c.loop-nth-test.true, c.len-entries.ensures.len) in (
      rw c.call_next.ensures.turned
          (Turned-more c.args.table.now.entries c.loop-nth.table.entries c.loop-nth.nth c.loop-nth.invariant.0 below),
      kept c.args.table.now c.loop-nth.table c.call_next.new.table c.loop-nth.invariant.1 c.call_next.ensures.rest,
      grind arith,
    )
