-- User code ends in which the poll of a run stands that took a future, and not its 200th: when what follows leaves both alike.
use Rattle.std.specs.Prelude.{◌≡◌, ◌⊎◌, ℕ, ◌<◌, Bool, true, false, List, ◌∷◌, length, Option, Some}
use Rattle.task_moves.specs.declared.moves.owed.Move.{Move}
use Rattle.executor_model.specs.declared.op.Op.{Op}
use Rattle.executor_model.specs.declared.op.RunPoll.{RunPoll}
use Rattle.executor_model.specs.declared.op.Waker.{Waker}
use Rattle.executor_model.specs.declared.step.Hint.{Hint}
use Rattle.executor_model.specs.World.{Done, World, among, task}
use Rattle.plain_scheduler.specs.State.{Choice, Closed, Drop, End, Lose, Plain, Poll, Run}
use Rattle.plain_scheduler.specs.Calls.{Call, does, Ends, Pends}
use Rattle.machine_roads.specs.View.{Output, wakes}
use Rattle.machine_roads.specs.Alone.{alone, is_resting, HasAll}
use Rattle.machine_roads.specs.Alike.{upon}
use Rattle.machine_roads.specs.Dropped.{Drops, EndsBy, IsEnding, dropped, lost}
use Rattle.machine_roads.specs.Forgotten.{IsForgotten, forgotten}
use Rattle.machine_roads.specs.Searching.{CanTake, IsLast, goes_on_by}
use Rattle.machine_roads.specs.Stopped.{IsInPoll, Stops, pended}

-- behind that the run searches on
abbrev pub on : RunPoll → Op
on x = goes_on_by x false

-- where the plain scheduler stands once that code ends, which tells who lay down last, the run's poll has come to the poll or the drop of
-- the next future that it takes, or to the drop of this one; or it is answered
abbrev pub GoesOnSo : RunPoll → ℕ → List Op → Plain Output Waker → Done → Call Output Waker → Plain Output Waker → Type 0
GoesOnSo x n below q end e before =
    (d : Choice) × (last : Bool) × (d.tells ≡ n) × Stops (Run x.run x.waker) (goes_on_by x last) below q end (does wakes d e before)
    × IsLast x.run last (does wakes d e before)

-- the poll of the future ends without an output
abbrev pub RunPendsAlike : ℕ → Option Waker → List Op → World → Plain Output Waker → Type 0
RunPendsAlike p here below w q =
    (x : RunPoll) (n f : ℕ) → IsInPoll w f → CanTake q x.run → length q.lying < n → (hints : List Hint)
    → HasAll p hints (pended p f (on x) below w) → is_resting (alone p hints (pended p f (on x) below w)).next ≡ true
    → GoesOnSo x n below q (alone p hints (pended p f (on x) below w)) Pends
    (record q { inside = Poll f (Run x.run x.waker) ∷ q.inside })

-- its drop ends: so it is too, or the call stands in the drop of an output that nobody can take
abbrev pub RunDropsAlike : ℕ → Option Waker → List Op → World → Plain Output Waker → Type 0
RunDropsAlike p here below w q =
    (x : RunPoll) (n f : ℕ) (m : Move) (why : End Output) → f < length w.tasks → among f w.table ≡ true → EndsBy (task w f) m why
    → CanTake q x.run → length q.lying < n → (hints : List Hint) → HasAll p hints (upon below (dropped m (on x) p f w))
    → is_resting (alone p hints (upon below (dropped m (on x) p f w))).next ≡ true
    → GoesOnSo x n below q (alone p hints (upon below (dropped m (on x) p f w))) Ends
    (record q { inside = Drop f why (Run x.run x.waker) ∷ q.inside })
    ⊎ ((d : Choice) × (d.tells ≡ n)
    × Drops (Run x.run x.waker) (on x) below f q (alone p hints (upon below (dropped m (on x) p f w)))
    (does wakes d Ends (record q { inside = Drop f why (Run x.run x.waker) ∷ q.inside })))

-- that drop ends, in whatever world the call stands in it
abbrev pub RunLosesAlike : Type 0
RunLosesAlike =
    (x : RunPoll) (n p f : ℕ) (below : List Op) (w : World) (q : Plain Output Waker) (awaiter : Option Waker)
    → is_resting below ≡ true → IsEnding w f awaiter q → CanTake q x.run → length q.lying < n → (hints : List Hint)
    → HasAll p hints (upon below (lost (on x) p f w)) → is_resting (alone p hints (upon below (lost (on x) p f w))).next ≡ true
    → GoesOnSo x n below q (alone p hints (upon below (lost (on x) p f w))) Ends
    (record q { inside = Lose awaiter (Some (Run x.run x.waker)) ∷ q.inside })

-- the drop of a future ends that nobody could wake or ask for any more, in whatever world the call stands in it
abbrev pub RunForgetsAlike : Type 0
RunForgetsAlike =
    (x : RunPoll) (n p f : ℕ) (below : List Op) (w : World) (q : Plain Output Waker) → is_resting below ≡ true → IsForgotten w f q
    → CanTake q x.run → length q.lying < n → (hints : List Hint) → HasAll p hints (upon below (forgotten (on x) p f w))
    → is_resting (alone p hints (upon below (forgotten (on x) p f w))).next ≡ true
    → GoesOnSo x n below q (alone p hints (upon below (forgotten (on x) p f w))) Ends
    (record q { inside = Drop f Closed (Run x.run x.waker) ∷ q.inside })
