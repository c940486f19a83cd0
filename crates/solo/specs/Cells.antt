-- The tasks of an executor of one owner: what each call does to the task of a name, and what it answers.
use Rattle.std.specs.Prelude.{ℕ, ◌^◌, ◌==◌, nat_lt, Bool, true, false, ◌&&◌, Option, Some, None, is_some, slice_set}
use Rattle.slab.specs.Slab.{Slab, get, with_value}
use Rattle.executor_parts.specs.declared.mark.Mark.{Mark}
use Rattle.executor_parts.specs.declared.places.EntryPlace.{EntryPlace}
use Rattle.task_moves.specs.AbstractTask as abstract
use Rattle.task_moves.specs.LocalTask as local
use Rattle.task_moves.specs.LocalTask.{LocalValue, Ended, with_task, told, info_of}
use Rattle.task_moves.specs.declared.schedule_info.ScheduleInfo.{ScheduleInfo}
use Rattle.task_moves.specs.declared.local_task.answers.FuturePlace.{FuturePlace}
use Rattle.task_moves.specs.declared.local_task.answers.FuturePlace.TheVariants.{Home, Dropping, Gone}
use Rattle.task_moves.specs.declared.local_task.answers.Start.{Start}
use Rattle.task_moves.specs.declared.local_task.answers.Start.TheVariants.{Poll, Drop}
use Rattle.task_moves.specs.declared.local_task.answers.Back.TheVariants.{Ready, Pending}
use Rattle.task_moves.specs.declared.local_task.answers.Finish.{Finish}
use Rattle.task_moves.specs.declared.local_task.answers.Finish.TheVariants.{Nothing}
use Rattle.task_moves.specs.declared.local_task.answers.Polled.{Polled}
use Rattle.task_moves.specs.declared.local_task.answers.Polled.TheVariants.{Closed}
use Rattle.solo.specs.declared.names.Task.{Task}
use Rattle.solo.specs.declared.names.SoloWaker.{SoloWaker}
use Rattle.solo.specs.declared.cells.Cell.{Cell}
use Rattle.solo.specs.declared.cells.Cells.{Cells}
use Rattle.solo.specs.declared.cells.After.{After}
use Rattle.solo.specs.declared.cells.After.TheVariants.{Queue, Rest, Drop as DropIt, Unknown}

-- the first where so, else the second
abbrev pub choose : {B : Type 0} → Bool → B → B → B
choose true a b = a
choose false a b = b

-- a task as it is kept
abbrev pub Kept : (T X : Type 0) → Type 0
Kept T X = LocalValue EntryPlace T (SoloWaker X) Mark

-- the place of a future that is there, to be dropped or polled
abbrev pub start_by : Bool → FuturePlace EntryPlace → Option (Start EntryPlace)
start_by true (Home place) = Some (Drop place)
start_by false (Home place) = Some (Poll place)
start_by is_closed _ = None

abbrev pub pending_by : abstract.PendingEnd → After
pending_by abstract.PendingEnd.Drops = DropIt
pending_by abstract.PendingEnd.Queues = Queue
pending_by abstract.PendingEnd.Forgets = DropIt
pending_by abstract.PendingEnd.Rests = Rest

abbrev pub retract_by : FuturePlace EntryPlace → Option EntryPlace
retract_by (Home place) = Some place
retract_by _ = None

module _ {T X : Type 0} where
  abbrev pub changed_by : (Kept T X → Kept T X) → Task → Option (Cell T X) → Slab (Cell T X) → Slab (Cell T X)
  changed_by f task None s = s
  changed_by f task (Some c) s = with_value s task.key (record c { task = choose (c.number == task.number) (f c.task) c.task })

  -- the task of a name is changed, if it is there
  abbrev pub changed : (Kept T X → Kept T X) → Task → Cells T X → Cells T X
  changed f task s = record { slab = changed_by f task (get s.slab task.key) s.slab }

  abbrev pub asked_by : {B : Type 0} → (Kept T X → B) → B → Task → Option (Cell T X) → B
  asked_by f otherwise task None = otherwise
  asked_by f otherwise task (Some c) = choose (c.number == task.number) (f c.task) otherwise

  -- what the task of a name answers, if it is there
  abbrev pub asked : {B : Type 0} → (Kept T X → B) → B → Task → Cells T X → B
  asked f otherwise task s = asked_by f otherwise task (get s.slab task.key)

  -- a new task: queued, with its handle and no waker but the one that an owned executor's table counts
  abbrev pub new_task : EntryPlace → Bool → Mark → Kept T X
  new_task place held mark = record { task = abstract.spawned (choose held 1 0); future = Home place; metadata = mark }

  abbrev pub entered : ℕ → EntryPlace → Bool → Mark → Option (Cell T X)
  entered number place held mark = Some (record { number = number; task = new_task place held mark })

  -- in which queue it belongs
  abbrev pub mark : Kept T X → Mark
  mark v = v.metadata

  abbrev pub woken : Kept T X → Kept T X
  woken v = with_task v (abstract.wake v.task)

  abbrev pub wake_queues : Kept T X → Bool
  wake_queues v = is_some (info_of v.task (abstract.wake v.task))

  -- fewer references than the most
  abbrev pub may_hold : Kept T X → Bool
  may_hold v = nat_lt (local.references_of v.task) (2 ^ 40)

  abbrev pub held : Kept T X → Kept T X
  held v = choose (may_hold v) (with_task v (abstract.copy v.task)) v

  abbrev pub has_waker : Kept T X → Bool
  has_waker v = nat_lt 0 v.task.wakers

  abbrev pub released : Kept T X → Kept T X
  released v = choose (has_waker v) (with_task v (abstract.release v.task)) v

  abbrev pub release_queues : Kept T X → Bool
  release_queues v = has_waker v && is_some (info_of v.task (abstract.release v.task))

  abbrev pub cancelled : Kept T X → Kept T X
  cancelled v = with_task v (abstract.cancel v.task).task

  abbrev pub cancel_queues : Kept T X → Option ScheduleInfo
  cancel_queues v = info_of v.task (abstract.cancel v.task).task

  abbrev pub cancel_calls : Kept T X → Option (SoloWaker X)
  cancel_calls v = (abstract.cancel v.task).called

  abbrev pub detached : Kept T X → Kept T X
  detached v = with_task v (abstract.detach v.task).task

  abbrev pub detach_queues : Kept T X → Option ScheduleInfo
  detach_queues v = info_of v.task (abstract.detach v.task).task

  abbrev pub detach_drops : Kept T X → Option T
  detach_drops v = (abstract.detach v.task).dropped

  abbrev pub polled : SoloWaker X → Kept T X → Kept T X
  polled waker v = choose v.task.handle (with_task v (abstract.poll waker v.task).task) v

  abbrev pub poll_answer : SoloWaker X → Kept T X → Polled T (SoloWaker X)
  poll_answer waker v = choose v.task.handle (local.poll_answer waker v.task) (Closed waker)

  abbrev pub may_start : Kept T X → Bool
  may_start v = local.is_ready_to_start v

  abbrev pub started : Kept T X → Kept T X
  started v = choose (may_start v) (record v { task = abstract.begin_run v.task; future = local.started v.task.closed }) v

  abbrev pub start_answer : Kept T X → Option (Start EntryPlace)
  start_answer v = choose (may_start v) (start_by v.task.closed v.future) None

  abbrev pub is_lent : Kept T X → Bool
  is_lent v = local.is_lent v.future

  abbrev pub settled : Ended EntryPlace T (SoloWaker X) → Kept T X → Kept T X
  settled end v = record v { task = told end.task; future = end.future }

  abbrev pub ended_ready : T → Kept T X → Kept T X
  ended_ready output v = choose (is_lent v) (settled (local.settle (Ready output) v.task) v) v

  abbrev pub ready_drops : T → Kept T X → Option T
  ready_drops output v = choose (is_lent v) (abstract.end_ready output v.task).dropped (Some output)

  abbrev pub ready_calls : T → Kept T X → Option (SoloWaker X)
  ready_calls output v = choose (is_lent v) (abstract.end_ready output v.task).called None

  abbrev pub ended_pending : EntryPlace → Kept T X → Kept T X
  ended_pending place v = choose (is_lent v) (settled (local.settle (Pending place) v.task) v) v

  abbrev pub pending_answer : Kept T X → After
  pending_answer v = choose (is_lent v) (pending_by (abstract.pending_end v.task)) Unknown

  abbrev pub retracted : Kept T X → Kept T X
  retracted v = choose (may_start v) (record v { task = record v.task { closed = true }; future = Dropping }) v

  abbrev pub retract_answer : Kept T X → Option EntryPlace
  retract_answer v = choose (may_start v) (retract_by v.future) None

  abbrev pub is_dropping : Kept T X → Bool
  is_dropping v = local.is_dropping v.future

  abbrev pub finished : Kept T X → Kept T X
  finished v = choose (is_dropping v) (record v { task = (local.finish v.task).task; future = Gone }) v

  abbrev pub finish_answer : Kept T X → Finish (SoloWaker X)
  finish_answer v = choose (is_dropping v) (local.finish_answer v.task) Nothing

  abbrev pub is_spent : Kept T X → Bool
  is_spent v = local.is_spent v

  -- the task is over and goes; its key is the next to be given out
  abbrev pub tidied : Task → Cells T X → Cells T X
  tidied task s = choose
      (asked is_spent false task s)
      (record { slab = record s.slab { slots = slice_set s.slab.slots task.key None; vacant_key = task.key } })
      s

  abbrev pub is_finished : Kept T X → Bool
  is_finished v = abstract.is_finished v.task

  abbrev pub must_wait : Kept T X → Bool
  must_wait v = v.task.handle && local.must_wait v.task
