use Rattle.std.proofs.Common.{◌≡◌}
use Rattle.queue_steps.specs.SingleTurns.{Look, push_turn}
use Rattle.queue_steps.specs.SingleCallTurns.{of_push}
use Rattle.concurrent_queue.specs.Answered.{turns}
use Rattle.concurrent_queue.specs.SingleSeat.{IsSameSeat, IsPushTurn}
use Rattle.concurrent_queue.proofs.single.pushing.push_from.Given as goal

abbrev pub invariant-loop : goal.invariant-loop
invariant-loop g l = IsSameSeat l.initial.pass l.pass × (l.value ≡ l.initial.value)
    × (of_push l.turn ≡ turns push_turn Look l.pass.me.0.found) × IsPushTurn l.turn
