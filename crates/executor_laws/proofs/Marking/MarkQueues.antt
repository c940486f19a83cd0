-- For futures_are_queued_by_their_marks.
-- Each of the executor's queues has futures of its mark alone.
use Rattle.std.proofs.Common.{ℕ, zero, suc, ◌<◌, ◌≤◌, List, [], ◌∷◌, length, arith}
use Rattle.std.specs.Prelude.{slice_index_or}
use Rattle.executor_model.specs.{Sound.times, Steps.run, Steps.start, World.queue_of}
use Rattle.executor_laws.specs.Looks.{AreQueuedByMark}
use Rattle.executor_model.proofs.Sleepers.TickLists.{same_self}
use Rattle.executor_laws.proofs.{Types.Kind, Types.Step, Reach.Marked.marked}

-- what stands at a place stands there
times-at : (xs : List ℕ) (i d : ℕ) → i < length xs → 1 ≤ times (slice_index_or xs i d) xs
times-at [] i d h = absurd (omega (arith, h))
times-at (x ∷ xs) zero d h = omega (arith, same_self x)
times-at (x ∷ xs) (suc i) d h = omega (arith, times-at xs i d (omega (arith, h)))

pub queued-by-mark : (limit : ℕ) (kind : Kind) (parties : ℕ) (steps : List Step) →
    AreQueuedByMark (run steps (start limit kind parties))
queued-by-mark limit kind parties steps m i d h =
    let xs : List ℕ = (queue_of (run steps (start limit kind parties)).world m).items in
    (marked limit kind parties steps).queued m (slice_index_or xs i d) (times-at xs i d h)
