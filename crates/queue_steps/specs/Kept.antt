-- The queue that is kept in one of three ways.
use Rattle.queue_steps.specs.declared.exclusive.Kept.{Kept}
use Rattle.queue_steps.specs.declared.exclusive.Kept.TheVariants.{Single, Bounded, Unbounded}
use Rattle.queue_steps.specs.ClosableQueue.{ClosableQueue}

abbrev pub kept_queue : {T : Type 0} → Kept T → ClosableQueue T
kept_queue (Single q) = q
kept_queue (Bounded q) = q
kept_queue (Unbounded q) = q
