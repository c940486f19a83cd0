use Rattle.std.proofs.Common.{◌≡◌}
use Rattle.queue_steps.specs.BoundedCallTurns.{of_pop}
use Rattle.concurrent_queue.specs.BoundedSeat.{StaysFree, pop_at}
use Rattle.concurrent_queue.specs.BoundedStands.{PopStands}
use Rattle.concurrent_queue.proofs.bounded.popping.pop_from.Given as goal

abbrev pub invariant-loop : goal.invariant-loop
invariant-loop g l =
    StaysFree l.initial.pass l.pass × (of_pop l.turn ≡ pop_at l.ring.shape l.pass.me.0.found) × PopStands l.ring.shape l.turn l.pass.me.0
