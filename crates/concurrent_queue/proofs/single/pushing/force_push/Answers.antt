use Rattle.std.proofs.Common.{ap}
use Rattle.queue_steps.specs.SingleCallTurns.{of_force_push}
use Rattle.concurrent_queue.proofs.SingleTurns.{force_ends}
use Rattle.concurrent_queue.proofs.single.pushing.force_push.Goals as goal

pub returns-in-Ok-clause-answers : goal.returns-in-Ok-clause-answers
returns-in-Ok-clause-answers g c =
    force_ends c.args.value c.in-Ok.held c.loop.pass.me.0.found c.write.new.pass.me.0.found (of_force_push c.loop.turn) c.in-Exchange.old
    c.in-Exchange.new c.in-Ok._last c.in-Ok.ensures.found.0 c.loop.invariant.2 (ap of_force_push c.in-Exchange.is)
    (ap (λ m. m.found) c.in-Ok.ensures.found.2)
