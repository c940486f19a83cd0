use Rattle.std.proofs.Common.{◌≡◌}
use Rattle.std.specs.Vec.{vec_capacity}
use Rattle.queue_steps.specs.BoundedAtRest.{AreFresh}
use Rattle.queue_steps.proofs.bounded.free_slots.Given as goal

-- the places so far are fresh, and there is room for all
abbrev pub invariant-loop-stamp : goal.invariant-loop-stamp
invariant-loop-stamp g l = AreFresh l.stamp l.slots.items × (vec_capacity l.slots ≡ l.capacity)
