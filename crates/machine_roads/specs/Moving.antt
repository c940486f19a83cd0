-- When a move of a task is a change of the plain scheduler's task.
use Rattle.std.specs.Prelude.{true, Bool, Some, ◌≡◌, ◌+◌, ◌<◌, ◌≤◌, ◌&&◌, false, not, if◌then◌else◌, Option, None, is_some}
use Rattle.task_moves.specs.declared.moves.state.State.{State}
use Rattle.task_moves.specs.declared.moves.owed.FutureDebt.TheVariants.{DropFuture, PollFuture}
use Rattle.task_moves.specs.declared.moves.owed.Moved.{Moved}
use Rattle.task_moves.specs.AbstractTask as abstract
use Rattle.task_moves.specs.AbstractTask.{AbstractTask}
use Rattle.task_moves.specs.AbstractTask.PendingEnd.{Drops, Queues, Forgets, Rests}
use Rattle.task_moves.specs.LocalTask.{info_of, told, token}
use Rattle.task_moves.specs.Moves as moves
use Rattle.task_moves.specs.Moves.{notify_if}
use Rattle.executor_model.specs.declared.op.Waker.{Waker}
use Rattle.machine_roads.specs.View.{Output, view}

-- it leaves the task so, whoever awaits it, and queues it where that does
pub record IsMove (m : Moved) (s : State) (awaiter : Option Waker) (new : AbstractTask Output Waker) : Type 0 where
  pub task : view m.state awaiter ≡ told new
  pub queues : is_some m.owed.schedule ≡ is_some (info_of (view s awaiter) new)

abbrev pub WakesAlike : State → Option Waker → Type 0
WakesAlike s awaiter =
    IsMove (moves.wake_by_reference s) s awaiter (abstract.wake (view s awaiter))
    × IsMove (moves.wake s) s awaiter (abstract.wake (view s awaiter))

-- one reference more
abbrev pub CopiesAlike : State → Option Waker → Type 0
CopiesAlike s awaiter =
    token s ≤ s.references → view (record s { references = s.references + 1 }) awaiter ≡ abstract.copy (view s awaiter)

-- a waker has a reference beside that of a Runnable, a run or a closing call
abbrev pub ReleasesAlike : State → Option Waker → Type 0
ReleasesAlike s awaiter = token s < s.references → IsMove (moves.release s) s awaiter (abstract.release (view s awaiter))

-- a cancel that leaves the awaiter where it is
abbrev pub cancelled : AbstractTask Output Waker → AbstractTask Output Waker
cancelled t = record (abstract.cancel t).task { awaiter = t.awaiter }

pub record CancelsAlike (s : State) (awaiter : Option Waker) : Type 0 where
  pub is : IsMove (moves.cancel s) s awaiter (cancelled (view s awaiter))
  pub notifies : (moves.cancel s).owed.awaiter ≡ notify_if (not (moves.is_over s) && s.awaiter)
  pub calls : (abstract.cancel (view s awaiter)).called ≡ (if moves.is_over s then None else awaiter)

-- a handle goes of a task whose output isn't there
abbrev pub DetachesAlike : State → Option Waker → Type 0
DetachesAlike s awaiter =
    (s.completed && not s.closed) ≡ false → token s ≤ s.references
    → IsMove (moves.detach s) s awaiter (abstract.detach (view s awaiter)).task

-- a run begins of a queued task: the future of a closed one is to be dropped, and any other's to be polled
pub record RunsAlike (s : State) (awaiter : Option Waker) : Type 0 where
  pub task : view (moves.take_up s).state awaiter ≡ abstract.begin_run (view s awaiter)
  pub future : (moves.take_up s).owed.future ≡ Some (if (view s awaiter).closed then DropFuture else PollFuture)

-- how a poll that gave no output leaves a task, until a future that has to be dropped is dropped
abbrev pub pended_by : abstract.PendingEnd → AbstractTask Output Waker → AbstractTask Output Waker
pended_by Drops t = t
pended_by Queues t = abstract.queue true t
pended_by Forgets t = record t { phase = abstract.Phase.Finished; closed = true }
pended_by Rests t = record t { phase = abstract.Phase.Idle }

abbrev pub has_to_drop : abstract.PendingEnd → Bool
has_to_drop Drops = true
has_to_drop Forgets = true
has_to_drop _ = false

pub record PendsAlike (s : State) (awaiter : Option Waker) : Type 0 where
  pub is : IsMove (moves.end_pending s) s awaiter (pended_by (abstract.pending_end (view s awaiter)) (view s awaiter))
  pub drops : is_some (moves.end_pending s).owed.future ≡ has_to_drop (abstract.pending_end (view s awaiter))

-- the awaiter goes, and the run's reference, in steps of their own
abbrev pub left_later : abstract.Left Output Waker → AbstractTask Output Waker → AbstractTask Output Waker
left_later left t = record left.task { wakers = t.wakers + 1; awaiter = t.awaiter }

pub record GivesAlike (s : State) (awaiter : Option Waker) : Type 0 where
  pub task : view (moves.end_ready s).state awaiter
      ≡ left_later (abstract.end_ready tt (view s awaiter)) (view s awaiter)
  pub drops : (moves.end_ready s).owed.drop_output ≡ is_some (abstract.end_ready tt (view s awaiter)).dropped

-- of a closed task whose future is dropped: queued before, or polled
abbrev pub SettlesAlike : State → Option Waker → Type 0
SettlesAlike s awaiter =
    (view (moves.settle_closed s).state awaiter ≡ left_later (abstract.settle_closed (view s awaiter)) (view s awaiter))

abbrev pub EndsClosedAlike : State → Option Waker → Type 0
EndsClosedAlike s awaiter =
    (view (moves.end_closed s).state awaiter ≡ left_later (abstract.settle_closed (view s awaiter)) (view s awaiter))

-- a task that is queued, and one that is polled, with the reference of its Runnable or run
pub record IsQueued (s : State) : Type 0 where
  pub scheduled : s.scheduled ≡ true
  pub running : s.running ≡ false
  pub completed : s.completed ≡ false
  pub counted : 1 ≤ s.references

pub record IsPolled (s : State) : Type 0 where
  pub running : s.running ≡ true
  pub completed : s.completed ≡ false
  pub counted : 1 ≤ s.references

-- a run from its beginning to its end
pub record IsRunAlike (s : State) (awaiter : Option Waker) : Type 0 where
  pub runs : IsQueued s → RunsAlike s awaiter
  pub pends : IsPolled s → PendsAlike s awaiter
  pub gives : IsPolled s → GivesAlike s awaiter
  pub settles : IsQueued s → s.closed ≡ true → SettlesAlike s awaiter
  pub ends : IsPolled s → s.closed ≡ true → EndsClosedAlike s awaiter
