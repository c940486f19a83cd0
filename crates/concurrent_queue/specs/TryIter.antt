-- The queue that an iterator over a shared queue walks, and what a loop over it counts down.
use Rattle.std.specs.Prelude.{ℕ}
use Rattle.std.specs.Sync.Forever.{forever_left}
use Rattle.concurrent_queue.specs.SharedQueue.{SharedQueue}
use Rattle.concurrent_queue.specs.declared.try_iter.TryIter.{TryIter}

abbrev pub turns_left : {T R : Type 0} → TryIter T R → ℕ
turns_left walk = forever_left walk.turns

abbrev pub walked_queue : {T R : Type 0} → TryIter T R → SharedQueue
walked_queue walk = walk.queue.now
