-- For awaiters_are_kept.
-- The wakers that a thing to do names are of futures that are there.
use Rattle.std.proofs.Common.{◌≡◌, ℕ, ◌+◌, length, arith}
use Rattle.executor_model.specs.{World.World, Weights.waker_past, Good.IsKnownWaker}
use Rattle.executor_model.proofs.{Types.Waker, Types.Task, Types.Outside, Counts.CountingHandles.below}

pub known_waker : (w : World) (a : Waker) (n : ℕ) → n + waker_past (length w.tasks) a ≡ 0 → IsKnownWaker w a
known_waker w (Task k) n z = below _ k (omega (arith, z))
known_waker w (Outside x) n z = tt
