use Rattle.std.proofs.Common.{◌≡◌}
use Rattle.queue_steps.specs.SingleTurns.{Look, force_push_turn}
use Rattle.queue_steps.specs.SingleCallTurns.{of_force_push}
use Rattle.concurrent_queue.specs.Answered.{turns}
use Rattle.concurrent_queue.specs.SingleSeat.{IsSameSeat, IsForcePushTurn}
use Rattle.concurrent_queue.proofs.single.pushing.force_push.Given as goal

abbrev pub invariant-loop : goal.invariant-loop
invariant-loop g l = IsSameSeat l.initial.pass l.pass × (l.value ≡ l.initial.value)
    × (of_force_push l.turn ≡ turns force_push_turn Look l.pass.me.0.found) × IsForcePushTurn l.turn
