-- What one party does alone, while user code begins no call: what it has to do, the first thing first, until nothing is left or
-- user code has to answer, and the calls of outside wakers end at once.
use Rattle.std.specs.Prelude.{◌≡◌, ℕ, suc, ◌+◌, ◌<◌, ◌≤◌, nat_lt, Bool, true, false, ◌&&◌, not, List, [], ◌∷◌, ◌++◌, length}
use Rattle.task_moves.specs.declared.moves.owed.Move.{Move}
use Rattle.task_moves.specs.declared.moves.owed.Move.TheVariants as move
use Rattle.task_moves.specs.declared.moves.state.State.{State}
use Rattle.task_moves.specs.LocalTask.{token}
use Rattle.task_moves.specs.Moves.{is_going}
use Rattle.executor_model.specs.declared.op.ClosingOp.{ClosingOp}
use Rattle.executor_model.specs.declared.op.ClosingOp.TheVariants as closing_op
use Rattle.executor_model.specs.declared.op.HandleOp.{HandleOp}
use Rattle.executor_model.specs.declared.op.HandleOp.TheVariants as handle_op
use Rattle.executor_model.specs.declared.op.ListOp.{ListOp}
use Rattle.executor_model.specs.declared.op.ListOp.TheVariants as list_op
use Rattle.executor_model.specs.declared.op.Op.{Op}
use Rattle.executor_model.specs.declared.op.Op.TheVariants as op
use Rattle.executor_model.specs.declared.op.QueueOp.{QueueOp}
use Rattle.executor_model.specs.declared.op.QueueOp.TheVariants as queue_op
use Rattle.executor_model.specs.declared.op.RunOp.{RunOp}
use Rattle.executor_model.specs.declared.op.RunOp.TheVariants as run_op
use Rattle.executor_model.specs.declared.op.SleeperOp.{SleeperOp}
use Rattle.executor_model.specs.declared.op.SleeperOp.TheVariants as sleeper_op
use Rattle.executor_model.specs.declared.op.StealOp.{StealOp}
use Rattle.executor_model.specs.declared.op.StealOp.TheVariants as steal_op
use Rattle.executor_model.specs.declared.op.TickOp.{TickOp}
use Rattle.executor_model.specs.declared.op.TickOp.TheVariants as tick_op
use Rattle.executor_model.specs.declared.op.TickOrRun.{TickOrRun}
use Rattle.executor_model.specs.declared.op.TickOrRun.TheVariants as tick_or_run
use Rattle.executor_model.specs.declared.op.UserOp.TheVariants as user_op
use Rattle.executor_model.specs.declared.op.Waker.{Waker}
use Rattle.executor_model.specs.declared.op.Waker.TheVariants.{Task, Outside}
use Rattle.executor_model.specs.declared.op.WakerOp.{WakerOp}
use Rattle.executor_model.specs.declared.op.WakerOp.TheVariants as waker_op
use Rattle.executor_model.specs.declared.step.Hint.{Hint}
use Rattle.executor_model.specs.Acts.{takes_more}
use Rattle.executor_model.specs.ActsOfRuns.{own_places}
use Rattle.executor_model.specs.Doing.{act}
use Rattle.executor_model.specs.Good.{HandleNeeds, IsKnown, IsKnownWaker}
use Rattle.executor_model.specs.Sound.{times}
use Rattle.executor_model.specs.Steps.{lives, waits}
use Rattle.executor_model.specs.World.{Asleep, Awake, World, Done, among, done, mark_of, own_of, place_of, queue_of, run_of, task}
use Rattle.machine_roads.specs.Moving.{IsQueued}
use Rattle.machine_roads.specs.Road.{run_view}

abbrev pub is_outside : Op → Bool
is_outside (op.User (user_op.CallOutside x)) = true
is_outside _ = false

-- nothing is left to do, or user code has to answer
abbrev pub is_resting : List Op → Bool
is_resting [] = true
is_resting (o ∷ os) = waits o && not (is_outside o)

abbrev pub answered_by : Bool → Op → List Op → List Op
answered_by true o os = os
answered_by false o os = o ∷ os

-- one thing is done, or the call of an outside waker ends; other user code stays
abbrev pub one_by : Bool → ℕ → Hint → Op → World → List Op → Done
one_by false p h o w os = done (act p h o w).world ((act p h o w).next ++ os)
one_by true p h o w os = done w (answered_by (is_outside o) o os)

abbrev pub one_of : ℕ → Hint → World → List Op → Done
one_of p h w [] = done w []
one_of p h w (o ∷ os) = one_by (waits o) p h o w os

abbrev pub one : ℕ → Hint → Done → Done
one p h d = one_of p h d.world d.next

-- as many as there are hints
abbrev pub alone : ℕ → List Hint → Done → Done
alone p [] d = d
alone p (h ∷ hs) d = alone p hs (one p h d)

-- a waker that goes has a reference beside that of a Runnable, a run or a closing call; and as a handle goes, each of those has one
abbrev pub IsHeld : Move → State → Type 0
IsHeld move.Release s = token s < s.references
IsHeld move.Detach s = token s ≤ s.references
IsHeld _ s = Unit {0}

-- a Runnable that is taken up is the one of a queued task, which has its entry in the table
abbrev pub MoveHas : Move → World → ℕ → Type 0
MoveHas move.TakeUp w f = IsQueued (task w f) × (among f w.table ≡ true)
MoveHas m w f = IsHeld m (task w f)

abbrev pub QueueHas : World → QueueOp → Type 0
QueueHas w (queue_op.Append f) = IsKnown w f × (takes_more (queue_of w (mark_of w f)) w.limit ≡ true)
QueueHas w _ = Unit {0}

abbrev pub WakerHas : World → WakerOp → Type 0
WakerHas w (waker_op.CopyWaker f held) = IsKnown w f × (token (task w f) ≤ (task w f).references)
WakerHas w (waker_op.CallAwaiter f a k) = IsKnownWaker w a

abbrev pub SleeperHas : World → SleeperOp → Type 0
SleeperHas w (sleeper_op.CallSleeper s) = IsKnownWaker w s.waker
SleeperHas w _ = Unit {0}

-- a waker whose task is there, with a reference for each Runnable, run or closing call
abbrev pub CanCopy : World → Waker → Type 0
CanCopy w (Task g) = IsKnown w g × (token (task w g) ≤ (task w g).references)
CanCopy w (Outside x) = Unit {0}

-- a task whose output is there has no Runnable, run or closing call
abbrev pub HandleHas : World → HandleOp → Type 0
HandleHas w (handle_op.Look f a) = IsKnown w f × ((task w f).completed ≡ true → is_going (task w f) ≡ false)
HandleHas w (handle_op.CopyAwaiter f a) = CanCopy w a
HandleHas w o = HandleNeeds w o

-- nobody else sleeps under its number
abbrev pub SleepsAlone : World → TickOrRun → Type 0
SleepsAlone w x = (n : ℕ) → place_of w x ≡ Asleep n → (y : TickOrRun) → place_of w y ≡ Asleep n → y ≡ x

-- it lives, and finds room where it is awake
pub record CanLie (w : World) (x : TickOrRun) : Type 0 where
  pub living : lives (place_of w x) ≡ true
  pub roomed : place_of w x ≡ Awake → w.sleepers.count < w.sleepers.rooms

-- so does a run that lies down; of a tick it is said where it is polled
abbrev pub RunCanLie : World → TickOrRun → Type 0
RunCanLie w (tick_or_run.Tick t) = Unit {0}
RunCanLie w (tick_or_run.Run r) = CanLie w (tick_or_run.Run r)

-- a run that searches is there
abbrev pub SearchHas : World → TickOrRun → Type 0
SearchHas w (tick_or_run.Tick t) = Unit {0}
SearchHas w (tick_or_run.Run r) = r < length w.runs

abbrev pub TickHas : World → TickOp → Type 0
TickHas w (tick_op.Search s) = SearchHas w s.who
TickHas w (tick_op.CopyWaker s) = CanCopy w s.waker
TickHas w (tick_op.FallAsleep s) = SleepsAlone w s.who × RunCanLie w s.who
TickHas w (tick_op.WakeUp x) = SleepsAlone w x
TickHas w (tick_op.Leave x) = SleepsAlone w x
TickHas w _ = Unit {0}

-- the executor's drop hasn't begun, and who is to be woken is there
abbrev pub ClosingHas : World → ClosingOp → Type 0
ClosingHas w closing_op.LeakOut = w.gone ≡ false
ClosingHas w closing_op.LeakNext = (w.gone ≡ false) × ((f : ℕ) (rest : List ℕ) → w.waking ≡ f ∷ rest → IsKnown w f)
ClosingHas w _ = Unit {0}

-- whom a run's own waker wakes is there
abbrev pub RunHas : World → RunOp → Type 0
RunHas w (run_op.WakeOwn x) = IsKnownWaker w x.waker
RunHas w _ = Unit {0}

-- who walks has an own queue, and what a run keeps that isn't over stands in the list
abbrev pub ListHas : World → ListOp → Type 0
ListHas w (list_op.LockRead x) =
    (x.run < length w.own)
    × ((k : ℕ) → 1 ≤ length (own_of w k) → (run_view (run_of w k)).is_over ≡ false → 1 ≤ times k w.listed)
ListHas w _ = Unit {0}

-- who steals has an own queue, and a place for each that it may still take
abbrev pub StealHas : World → StealOp → Type 0
StealHas w (steal_op.Length s) = s.poll.run < length w.own
StealHas w (steal_op.Take s more) = length (own_of w s.poll.run) + suc more ≤ own_places w s.poll.run
StealHas w _ = Unit {0}

-- what a thing to do speaks of is there
abbrev pub Has : World → Op → Type 0
Has w (op.Move m f) = IsKnown w f × MoveHas m w f
Has w (op.Queue o) = QueueHas w o
Has w (op.Waker o) = WakerHas w o
Has w (op.Sleeper o) = SleeperHas w o
Has w (op.Handle o) = HandleHas w o
Has w (op.Tick o) = TickHas w o
Has w (op.List o) = ListHas w o
Has w (op.Run o) = RunHas w o
Has w (op.Steal o) = StealHas w o
Has w (op.Closing o) = ClosingHas w o
Has w _ = Unit {0}

-- what is there at each moment, also once the executor's drop has begun: a place in the queue, whether that is closed or not
abbrev pub MoveHasIn : Move → World → ℕ → Type 0
MoveHasIn move.Release w f = token (task w f) < (task w f).references
MoveHasIn move.DropRunnable w f = IsQueued (task w f)
MoveHasIn m w f = Unit {0}

abbrev pub ClosingHasIn : World → ClosingOp → Type 0
ClosingHasIn w closing_op.DropNext = (f : ℕ) (rest : List ℕ) → w.leaving ≡ f ∷ rest → IsKnown w f
ClosingHasIn w closing_op.WakeNext = (f : ℕ) (rest : List ℕ) → w.waking ≡ f ∷ rest → IsKnown w f
ClosingHasIn w _ = Unit {0}

abbrev pub HasIn : World → Op → Type 0
HasIn w (op.Move m f) = IsKnown w f × MoveHasIn m w f
HasIn w (op.Queue (queue_op.Append f)) = nat_lt (length (queue_of w (mark_of w f)).items) w.limit ≡ true
HasIn w (op.Waker (waker_op.CallAwaiter f a k)) = IsKnownWaker w a
HasIn w (op.Closing o) = ClosingHasIn w o
HasIn w _ = Unit {0}

-- or what else is asked of it, of the first one
abbrev pub HasFirst : (World → Op → Type 0) → World → List Op → Type 0
HasFirst Asked w [] = Unit {0}
HasFirst Asked w (o ∷ os) = Asked w o

-- at each moment, of all that is left to do
abbrev pub HasAllBy : (World → List Op → Type 0) → ℕ → List Hint → Done → Type 0
HasAllBy P p [] d = Unit {0}
HasAllBy P p (h ∷ hs) d = P d.world d.next × HasAllBy P p hs (one p h d)

-- or of the first one
abbrev pub HasAllOf : (World → Op → Type 0) → ℕ → List Hint → Done → Type 0
HasAllOf Asked p hints d = HasAllBy (HasFirst Asked) p hints d

abbrev pub HasAll : ℕ → List Hint → Done → Type 0
HasAll p hints d = HasAllOf Has p hints d
