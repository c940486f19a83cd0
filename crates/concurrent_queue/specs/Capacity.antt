-- The capacity of a queue that is kept in one of three ways.
use Rattle.std.specs.Prelude.{ℕ, Option, Some, None}
use Rattle.concurrent_queue.specs.declared.concurrent.Kept.{Kept}
use Rattle.concurrent_queue.specs.declared.concurrent.Kept.TheVariants.{Single, Bounded, Unbounded}

abbrev pub kept_capacity : {T : Type 0} → Kept T → Option ℕ
kept_capacity (Single queue) = Some 1
kept_capacity (Bounded queue) = Some queue.shape.capacity
kept_capacity (Unbounded queue) = None
