-- The task of one owner: the abstract task, and where its future is. Its owner is told of each queueing by the answer of
-- the call, so none is kept in the task.
use Rattle.std.specs.Prelude.{◌≡◌, ℕ, ◌+◌, ◌-◌, ◌≤◌, ◌==◌, Bool, true, false, ◌&&◌, ◌||◌, not, if◌then◌else◌, Option, Some, None, is_some, [], length, slice_get}
use Rattle.task_moves.specs.declared.schedule_info.ScheduleInfo.{ScheduleInfo}
use Rattle.task_moves.specs.declared.moves.state.State.{State}
use Rattle.task_moves.specs.declared.moves.owed.Move.{Move}
use Rattle.task_moves.specs.declared.moves.owed.Move.TheVariants.{EndClosed, SettleClosed}
use Rattle.task_moves.specs.declared.local_task.answers.FuturePlace.{FuturePlace}
use Rattle.task_moves.specs.declared.local_task.answers.FuturePlace.TheVariants.{Home, Lent, Dropping, Gone}
use Rattle.task_moves.specs.declared.local_task.answers.Start.{Start}
use Rattle.task_moves.specs.declared.local_task.answers.Start.TheVariants.{Poll, Drop}
use Rattle.task_moves.specs.declared.local_task.answers.Back.{Back}
use Rattle.task_moves.specs.declared.local_task.answers.Back.TheVariants.{Ready, Pending}
use Rattle.task_moves.specs.declared.local_task.answers.Settled.{Settled}
use Rattle.task_moves.specs.declared.local_task.answers.Settled.TheVariants.{Finish as FinishTask, Queue, Rest, Drop as DropFuture}
use Rattle.task_moves.specs.declared.local_task.answers.Finish.{Finish}
use Rattle.task_moves.specs.declared.local_task.answers.Finish.TheVariants.{Nothing, Wake, Drop as DropAwaiter}
use Rattle.task_moves.specs.declared.local_task.answers.Polled.{Polled as PollAnswer}
use Rattle.task_moves.specs.declared.local_task.answers.Polled.TheVariants.{Output as OutputOf, Closed as ClosedOf, Pending as PendingOf}
use Rattle.task_moves.specs.AbstractTask as abstract
use Rattle.task_moves.specs.AbstractTask.{AbstractTask, Left, Phase}
use Rattle.task_moves.specs.AbstractTask.Phase.{Idle, Queued, Polling, PollingWoken, Finished}
use Rattle.task_moves.specs.AbstractTask.PendingEnd.{Drops, Queues, Forgets, Rests}
use Rattle.task_moves.specs.Moves.{is_going, most_references}

pub record LocalValue (F T A M : Type 0) : Type 0 where
  pub task : AbstractTask T A
  pub future : FuturePlace F
  pub metadata : M

-- how the end of a poll leaves a task, and where its future is then
pub record Ended (F T A : Type 0) : Type 0 where
  pub task : AbstractTask T A
  pub future : FuturePlace F

-- completed, running, scheduled, closed
abbrev pub phase_by : Bool → Bool → Bool → Bool → Phase
phase_by true running scheduled closed = Finished
phase_by false true true closed = PollingWoken
phase_by false true false closed = Polling
phase_by false false true closed = Queued
phase_by false false false true = Finished
phase_by false false false false = Idle

abbrev pub phase_of : State → Phase
phase_of s = phase_by s.completed s.running s.scheduled s.closed

-- one for a Runnable, a run or the rest of a closing call
abbrev pub token : State → ℕ
token s = if is_going s then 1 else 0

abbrev pub token_by : Phase → ℕ
token_by Idle = 0
token_by Finished = 0
token_by _ = 1

-- what the owner is told of one queueing
abbrev pub info_from : Option Bool → Option ScheduleInfo
info_from (Some woken) = Some (record { woken_while_running = woken })
info_from None = None

-- the move that is made once the future of a closed task is dropped: running, scheduled
abbrev pub last_move_by : Bool → Bool → Option Move
last_move_by true scheduled = Some EndClosed
last_move_by false true = Some SettleClosed
last_move_by false false = None

module _ {F : Type 0} where
  -- the marks of a task whose future is there
  abbrev pub place_fits : FuturePlace F → State → Bool
  place_fits (Home f) s = not s.running && (not s.completed && (s.scheduled || not s.closed))
  place_fits Lent s = s.running && not s.completed
  place_fits Dropping s = s.closed && (not s.completed && (is_going s || not s.handle))
  place_fits Gone s = not s.running && (not s.scheduled && (s.completed || s.closed))

  abbrev pub is_gone : FuturePlace F → Bool
  is_gone Gone = true
  is_gone _ = false

  abbrev pub is_dropping : FuturePlace F → Bool
  is_dropping Dropping = true
  is_dropping _ = false

  abbrev pub is_home : FuturePlace F → Bool
  is_home (Home f) = true
  is_home _ = false

  -- the future that `start` hands out
  abbrev pub future_in : Start F → F
  future_in (Poll f) = f
  future_in (Drop f) = f

  abbrev pub is_poll : Start F → Bool
  is_poll (Poll f) = true
  is_poll (Drop f) = false

  -- where the future of a task is that was started: it is dropped where the task is closed
  abbrev pub started : Bool → FuturePlace F
  started true = Dropping
  started false = Lent

-- the marks, the count and the next move agree with what is in the task
pub record IsSound (F T A : Type 0) (s : State) (next : Option Move) (future : FuturePlace F) (output : Option T) (awaiter : Option A) : Type 0 where
  pub placed : place_fits future s ≡ true
  pub followed : is_dropping future ≡ true → next ≡ last_move_by s.running s.scheduled
  pub unregistered : s.registering ≡ false
  pub unnotified : s.notifying ≡ false
  pub kept : is_some output ≡ (s.completed && not s.closed)
  pub awaited : is_gone future ≡ false → is_some awaiter ≡ s.awaiter
  pub called : is_gone future ≡ true → is_some awaiter ≡ false
  pub counted : token s ≤ s.references
  pub few : s.references ≤ most_references + token s

abbrev pub waits_by : {T : Type 0} → abstract.Polled T → Bool
waits_by abstract.Polled.Waits = true
waits_by _ = false

-- an awaiter that is called, or one that is dropped uncalled
abbrev pub finish_answer_by : {A : Type 0} → Option A → Option A → Finish A
finish_answer_by (Some awaiter) let_go = Wake awaiter
finish_answer_by None (Some awaiter) = DropAwaiter awaiter
finish_answer_by None None = Nothing

module _ {T A : Type 0} where
  -- the task that these marks, this output and this awaiter stand for
  abbrev pub task_of : State → Option T → Option A → AbstractTask T A
  task_of s output awaiter = record { phase = phase_of s; closed = s.closed; handle = s.handle; wakers = s.references - token s; output = output; awaiter = awaiter; infos = [] }

  -- its owner was told of each queueing
  abbrev pub told : AbstractTask T A → AbstractTask T A
  told t = record t { infos = [] }

  -- what the owner is told where a call has queued the task, from how it was before and how it is after
  abbrev pub info_of : AbstractTask T A → AbstractTask T A → Option ScheduleInfo
  info_of old new = info_from (slice_get new.infos (length old.infos))

  abbrev pub finish_by : Phase → AbstractTask T A → Left T A
  finish_by Finished t = abstract.forget t
  finish_by _ t = abstract.settle_closed t

  -- the rest of a run or a closing call, once the future is dropped
  abbrev pub finish : AbstractTask T A → Left T A
  finish t = finish_by t.phase t

  -- what its owner does about the awaiter
  abbrev pub finish_answer : AbstractTask T A → Finish A
  finish_answer t = let end = finish t in finish_answer_by end.called end.let_go

-- the task has become this one, its owner is told, and its future is where it was
abbrev pub with_task : {F T A M : Type 0} → LocalValue F T A M → AbstractTask T A → LocalValue F T A M
with_task value task = record value { task = told task }

module _ {F T A : Type 0} where
  abbrev pub settle_pending_by : abstract.PendingEnd → F → AbstractTask T A → Ended F T A
  settle_pending_by Drops f t = record { task = t; future = Dropping }
  settle_pending_by Queues f t = record { task = abstract.queue true t; future = Home f }
  settle_pending_by Forgets f t = record { task = record t { phase = Finished; closed = true }; future = Dropping }
  settle_pending_by Rests f t = record { task = record t { phase = Idle }; future = Home f }

  -- how the end of a poll leaves the task, until a future that has to be dropped is dropped
  abbrev pub settle : Back F T → AbstractTask T A → Ended F T A
  settle (Ready v) t = record { task = (abstract.end_ready v t).task; future = Gone }
  settle (Pending f) t = settle_pending_by (abstract.pending_end t) f t

  abbrev pub settle_pending_answer_by : abstract.PendingEnd → F → Settled F T A
  settle_pending_answer_by Drops f = DropFuture f
  settle_pending_answer_by Queues f = Queue (record { woken_while_running = true })
  settle_pending_answer_by Forgets f = DropFuture f
  settle_pending_answer_by Rests f = Rest

  -- what its owner does then
  abbrev pub settle_answer : Back F T → AbstractTask T A → Settled F T A
  settle_answer (Ready v) t = let end = abstract.end_ready v t in FinishTask end.dropped end.called
  settle_answer (Pending f) t = settle_pending_answer_by (abstract.pending_end t) f

module _ {F : Type 0} where
  abbrev pub is_lent : FuturePlace F → Bool
  is_lent Lent = true
  is_lent _ = false

abbrev pub is_queued : Phase → Bool
is_queued Queued = true
is_queued _ = false

-- its turn is there, and its future is in its place
abbrev pub is_ready_to_start : {F T A M : Type 0} → LocalValue F T A M → Bool
is_ready_to_start value = is_home value.future && is_queued value.task.phase

module _ {T A : Type 0} where
  -- the wakers, and one for a Runnable, a run or the rest of a closing call
  abbrev pub references_of : AbstractTask T A → ℕ
  references_of t = t.wakers + token_by t.phase

  -- neither its handle nor a waker, a Runnable, a run or a closing call is left
  abbrev pub is_unreachable : AbstractTask T A → Bool
  is_unreachable t = (references_of t == 0) && not t.handle

  abbrev pub poll_answer_by : abstract.Polled T → A → AbstractTask T A → PollAnswer T A
  poll_answer_by (abstract.Polled.Output v) waker t = OutputOf v waker
  poll_answer_by abstract.Polled.Cancelled waker t = ClosedOf waker
  poll_answer_by abstract.Polled.Waits waker t = PendingOf t.awaiter

  -- what a poll of the handle answers
  abbrev pub poll_answer : A → AbstractTask T A → PollAnswer T A
  poll_answer waker t = poll_answer_by (abstract.polled t) waker t

  -- whether a poll of the handle has to leave its waker
  abbrev pub must_wait : AbstractTask T A → Bool
  must_wait t = waits_by (abstract.polled t)

-- it is over and holds nothing more: nobody could reach it, its future is dropped, its output is gone and nobody awaits it
abbrev pub is_spent : {F T A M : Type 0} → LocalValue F T A M → Bool
is_spent value =
    is_gone value.future && (is_unreachable value.task && (not (is_some value.task.output) && not (is_some value.task.awaiter)))
