use Rattle.std.proofs.Common.{◌≡◌}
use Rattle.queue_steps.specs.SingleTurns.{Look, pop_turn}
use Rattle.queue_steps.specs.SingleCallTurns.{of_pop}
use Rattle.concurrent_queue.specs.Answered.{turns}
use Rattle.concurrent_queue.specs.SingleSeat.{IsSameSeat, IsPopTurn}
use Rattle.concurrent_queue.proofs.single.popping.pop_from.Given as goal

abbrev pub invariant-loop : goal.invariant-loop
invariant-loop g l = IsSameSeat l.initial.pass l.pass × (of_pop l.turn ≡ turns pop_turn Look l.pass.me.0.found) × IsPopTurn l.turn
