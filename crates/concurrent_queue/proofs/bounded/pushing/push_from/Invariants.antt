use Rattle.std.proofs.Common.{◌≡◌}
use Rattle.queue_steps.specs.BoundedCallTurns.{of_push}
use Rattle.concurrent_queue.specs.BoundedSeat.{StaysFree, push_at}
use Rattle.concurrent_queue.specs.BoundedStands.{PushStands}
use Rattle.concurrent_queue.proofs.bounded.pushing.push_from.Given as goal

abbrev pub invariant-loop : goal.invariant-loop
invariant-loop g l =
    StaysFree l.initial.pass l.pass × (l.value ≡ l.initial.value) × (of_push l.turn ≡ push_at l.ring.shape l.pass.me.0.found)
    × PushStands l.ring.shape l.turn l.pass.me.0
