use Rattle.concurrent_queue.specs.BoundedSeat.{StaysFree}
use Rattle.concurrent_queue.specs.BoundedStands.{LenStands}
use Rattle.concurrent_queue.proofs.bounded.calls.try_len.Given as goal

abbrev pub invariant-loop : goal.invariant-loop
invariant-loop g l = StaysFree l.initial.pass l.pass × LenStands l.ring.shape l.tail l.pass.me.0
