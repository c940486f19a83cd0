-- What each call of an executor of one owner does, and what it hands out.
use Rattle.std.specs.Prelude.{◌≡◌, ℕ, ◌==◌, ◌||◌, Bool, true, false, [], Option, Some, None, is_some, Result, Ok, Err, length}
use Rattle.std.specs.Prelude.{◌+◌, ◌-◌, ◌^◌, min}
use Rattle.queue_steps.specs.ClosableQueue.{new_queue, count_of_new}
use Rattle.executor_parts.specs.declared.mark.Mark.{Mark}
use Rattle.executor_parts.specs.Places.{entry_in, set_future, displaced}
use Rattle.task_moves.specs.declared.local_task.answers.Back.{Back}
use Rattle.task_moves.specs.declared.local_task.answers.Back.TheVariants.{Ready, Pending}
use Rattle.task_moves.specs.declared.local_task.answers.Finish.{Finish}
use Rattle.task_moves.specs.declared.local_task.answers.Finish.TheVariants.{Wake, Drop as DropIt, Nothing as NoAwaiter}
use Rattle.task_moves.specs.declared.local_task.answers.Polled.{Polled}
use Rattle.task_moves.specs.declared.local_task.answers.Polled.TheVariants.{Closed as PollClosed}
use Rattle.solo.specs.declared.names.Task.{Task}
use Rattle.solo.specs.declared.names.Kind.{Kind}
use Rattle.solo.specs.declared.names.Kind.TheVariants.{Owned, Static}
use Rattle.solo.specs.declared.names.SoloWaker.{SoloWaker}
use Rattle.solo.specs.declared.owed.Lent.{Lent}
use Rattle.solo.specs.declared.owed.Owed.{Owed}
use Rattle.solo.specs.declared.owed.Told.{Told}
use Rattle.solo.specs.declared.owed.Taken.{Taken}
use Rattle.solo.specs.declared.owed.Found.TheVariants.{Nothing}
use Rattle.solo.specs.declared.owed.Spawned.{Spawned}
use Rattle.solo.specs.declared.owed.SpawnError.{SpawnError}
use Rattle.solo.specs.declared.owed.SpawnError.TheVariants.{Full, NoMemory}
use Rattle.solo.specs.declared.solo.Solo.{Solo}
use Rattle.solo.specs.declared.cells.After.{After}
use Rattle.solo.specs.declared.cells.After.TheVariants.{Queue, Rest, Drop as DropFuture, Unknown}
use Rattle.solo.specs.Table.{Accepts, Refuses}
use Rattle.solo.specs.Cells.{asked}
use Rattle.solo.specs.Cells as cells
use Rattle.solo.specs.Lines.{new_lines, searched, search_answer}
use Rattle.solo.specs.OwnQueues as own
use Rattle.solo.specs.Turns as turns
use Rattle.solo.specs.Turns.{turned, swept}

-- the future that a refusal hands back
abbrev pub refused : {F : Type 0} → SpawnError F → F
refused (Full future) = future
refused (NoMemory future) = future

abbrev pub counts : Kind → Bool
counts Owned = true
counts Static = false

module _ {X : Type 0} where
  abbrev pub called : Finish (SoloWaker X) → Option (SoloWaker X)
  called (Wake awaiter) = Some awaiter
  called _ = None

  abbrev pub dropped : Finish (SoloWaker X) → Option (SoloWaker X)
  dropped (DropIt awaiter) = Some awaiter
  dropped _ = None

module _ {F T X : Type 0} where
  -- no tasks, no futures and no sleepers
  pub record IsNew (limit : ℕ) (kind : Kind) (s : Solo F T X) : Type 0 where
    pub cells : s.cells.slab.slots ≡ []
    pub table : s.table ≡ record s.table { entries = []; limit = limit }
    pub going : s.going ≡ record s.going { entries = []; limit = limit }
    pub lines : s.lines ≡ new_lines limit
    pub leaving : s.leaving ≡ new_queue (Some limit) (count_of_new limit)
    pub sleepers : s.sleepers ≡ record { count = 0; rooms = 0; wakers = []; free = [] }
    pub notified : s.notified ≡ true
    pub runs : s.runs ≡ own.none
    pub kind_of : s.kind ≡ kind
    pub accepted : s.accepted ≡ 0

  abbrev pub is_empty : Solo F T X → Bool
  is_empty s = length s.table.entries == 0

  -- all but cells and table stay, and one more is accepted
  abbrev pub Accepting : Mark → F → Solo F T X → Result Task (SpawnError F) → Solo F T X → Type 0
  Accepting mark future old (Ok task) new =
      Accepts old.accepted (counts old.kind) mark future old.table old.cells task new.table new.cells
      × (new ≡ record old { table = new.table; cells = new.cells; accepted = own.one_more old.accepted })
  Accepting mark future old (Err refused) new =
      Refuses future old.table old.cells new.table new.cells refused × (new ≡ record old { table = new.table; cells = new.cells })

  -- a future is accepted and then its task queued, or it is refused
  abbrev pub Spawns : Mark → F → Solo F T X → Result (Spawned X) (SpawnError F) → Solo F T X → Type 0
  Spawns mark future old (Ok spawned) new =
      (s : Solo F T X) × Accepting mark future old (Ok spawned.task) s × (new ≡ turns.scheduled spawned.task s)
      × (spawned.told ≡ turns.schedule_answer spawned.task s)
  Spawns mark future old (Err refused) new = Accepting mark future old (Err refused) new

  -- how many tasks are queued; a count stays at its greatest number
  abbrev pub queue_length : Solo F T X → ℕ
  queue_length s = min (length s.lines.urgent.items + length s.lines.plain.items) (2 ^ 64 - 1)

  -- the task that a search of both queues finds
  abbrev pub sought : Solo F T X → Option Task
  sought s = (search_answer s.lines).task

  -- a turn is taken, and that task leaves its queue
  abbrev pub popped : Solo F T X → Solo F T X
  popped s = record s { lines = searched s.lines }

  abbrev pub taken_by : Option Task → Solo F T X → Solo F T X
  taken_by None s = s
  taken_by (Some task) s = turns.begun task (turns.told s)

  -- the first task leaves the queue, a sleeper is told, and the task's turn begins
  abbrev pub taken : Solo F T X → Solo F T X
  taken s = taken_by (sought s) (popped s)

  abbrev pub take_answer_by : Option Task → Solo F T X → Taken F X
  take_answer_by None s = record { found = Nothing; sleeper = None }
  take_answer_by (Some task) s = record { found = turns.begin_answer task (turns.told s); sleeper = turns.told_waker s }

  abbrev pub take_answer : Solo F T X → Taken F X
  take_answer s = take_answer_by (sought s) (popped s)

  -- the future is dropped: its entry goes, and then the task keeps the output, or lets it go
  abbrev pub settled_ready : Lent → T → Solo F T X → Solo F T X
  settled_ready lent output s = swept lent.task (turned (cells.ended_ready output) lent.task (turns.left lent.place s))

  abbrev pub settle_ready_answer : Lent → T → Solo F T X → Owed F T X
  settle_ready_answer lent output s =
      let gone = turns.left lent.place s in
      let left = turns.left_answer lent.place s in
      record {
        future = left.future;
        rest = None;
        output = asked (cells.ready_drops output) (Some output) lent.task gone.cells;
        awaiter = asked (cells.ready_calls output) None lent.task gone.cells;
        sleeper = left.told.sleeper;
        old = None;
        returned = left.told.returned;
      }

  abbrev pub put_back : Lent → F → Solo F T X → Solo F T X
  put_back lent future s = record s { table = record s.table { entries = set_future lent.place (Some future) s.table.entries } }

  abbrev pub over : Lent → F → Solo F T X → Option F
  over lent future s = displaced future (entry_in lent.place s.table.entries)

  abbrev pub pending_by : After → Lent → F → Solo F T X → Solo F T X
  pending_by DropFuture lent future s = s
  pending_by Unknown lent future s = s
  pending_by Rest lent future s = put_back lent future s
  pending_by Queue lent future s = turns.scheduled lent.task (put_back lent future s)

  abbrev pub after_poll : Lent → Solo F T X → After
  after_poll lent s = asked cells.pending_answer Unknown lent.task s.cells

  -- the future is put back, and its task queued where it was woken meanwhile; or the future is dropped
  abbrev pub settled_pending : Lent → F → Solo F T X → Solo F T X
  settled_pending lent future s = pending_by (after_poll lent s) lent future (turned (cells.ended_pending lent.place) lent.task s)

  abbrev pub hands : Option F → Option Lent → Told X → Owed F T X
  hands future rest told =
      record { future = future; rest = rest; output = None; awaiter = None; sleeper = told.sleeper; old = None; returned = told.returned }

  abbrev pub pending_answer_by : After → Lent → F → Solo F T X → Owed F T X
  pending_answer_by DropFuture lent future s = hands (Some future) (Some lent) turns.silent
  pending_answer_by Unknown lent future s = hands (Some future) None turns.silent
  pending_answer_by Rest lent future s = hands (over lent future s) None turns.silent
  pending_answer_by Queue lent future s =
      hands (over lent future s) None (turns.schedule_answer lent.task (put_back lent future s))

  abbrev pub settle_pending_answer : Lent → F → Solo F T X → Owed F T X
  settle_pending_answer lent future s =
      pending_answer_by (after_poll lent s) lent future (turned (cells.ended_pending lent.place) lent.task s)

  abbrev pub settled : Lent → Back F T → Solo F T X → Solo F T X
  settled lent (Ready output) s = settled_ready lent output s
  settled lent (Pending future) s = settled_pending lent future s

  abbrev pub settle_answer : Lent → Back F T → Solo F T X → Owed F T X
  settle_answer lent (Ready output) s = settle_ready_answer lent output s
  settle_answer lent (Pending future) s = settle_pending_answer lent future s

  -- the future is dropped: its entry goes, and then the task is finished
  abbrev pub finished : Lent → Solo F T X → Solo F T X
  finished lent s = swept lent.task (turned cells.finished lent.task (turns.left lent.place s))

  abbrev pub finish_answer : Lent → Solo F T X → Owed F T X
  finish_answer lent s =
      let end = asked cells.finish_answer NoAwaiter lent.task (turns.left lent.place s).cells in
      let left = turns.left_answer lent.place s in
      record {
        future = left.future;
        rest = None;
        output = None;
        awaiter = called end;
        sleeper = left.told.sleeper;
        old = dropped end;
        returned = left.told.returned;
      }

  abbrev pub woken : Task → Solo F T X → Solo F T X
  woken task s = turns.scheduled_if (asked cells.wake_queues false task s.cells) task (turned cells.woken task s)

  abbrev pub wake_answer : Task → Solo F T X → Told X
  wake_answer task s = turns.schedule_if_answer (asked cells.wake_queues false task s.cells) task (turned cells.woken task s)

  abbrev pub cancelled : Task → Solo F T X → Solo F T X
  cancelled task s = turns.scheduled_if (is_some (asked cells.cancel_queues None task s.cells)) task (turned cells.cancelled task s)

  abbrev pub cancel_answer : Task → Solo F T X → Owed F T X
  cancel_answer task s =
      let told = turns.schedule_if_answer (is_some (asked cells.cancel_queues None task s.cells)) task (turned cells.cancelled task s) in
      record {
        future = None;
        rest = None;
        output = None;
        awaiter = asked cells.cancel_calls None task s.cells;
        sleeper = told.sleeper;
        old = None;
        returned = told.returned;
      }

  abbrev pub detached : Task → Solo F T X → Solo F T X
  detached task s =
      swept task (turns.scheduled_if (is_some (asked cells.detach_queues None task s.cells)) task (turned cells.detached task s))

  abbrev pub detach_answer : Task → Solo F T X → Owed F T X
  detach_answer task s =
      let told = turns.schedule_if_answer (is_some (asked cells.detach_queues None task s.cells)) task (turned cells.detached task s) in
      record {
        future = None;
        rest = None;
        output = asked cells.detach_drops None task s.cells;
        awaiter = None;
        sleeper = told.sleeper;
        old = None;
        returned = told.returned;
      }

  abbrev pub polled : Task → SoloWaker X → Solo F T X → Solo F T X
  polled task waker s = turned (cells.polled waker) task s

  abbrev pub poll_answer : Task → SoloWaker X → Solo F T X → Polled T (SoloWaker X)
  poll_answer task waker s = asked (cells.poll_answer waker) (PollClosed waker) task s.cells

  abbrev pub held : Task → Solo F T X → Solo F T X
  held task s = turned cells.held task s

  abbrev pub may_hold : Task → Solo F T X → Bool
  may_hold task s = asked cells.may_hold false task s.cells

  abbrev pub released : Task → Solo F T X → Solo F T X
  released task s = turns.let_go task s

  abbrev pub release_answer : Task → Solo F T X → Told X
  release_answer task s = turns.let_go_answer task s

  -- where the wake queues it, the waker's release doesn't
  abbrev pub wakes_or_closes : Task → Solo F T X → Bool
  wakes_or_closes task s =
      asked cells.wake_queues false task s.cells || asked cells.release_queues false task (turned cells.woken task s).cells

  -- it is woken by a waker of its own, which goes
  abbrev pub woken_and_released : Task → Solo F T X → Solo F T X
  woken_and_released task s =
      swept task (turns.scheduled_if (wakes_or_closes task s) task (turned cells.released task (turned cells.woken task s)))

  abbrev pub wake_and_release_answer : Task → Solo F T X → Told X
  wake_and_release_answer task s =
      turns.schedule_if_answer (wakes_or_closes task s) task (turned cells.released task (turned cells.woken task s))

  abbrev pub is_finished : Task → Solo F T X → Bool
  is_finished task s = asked cells.is_finished true task s.cells

  abbrev pub must_wait : Task → Solo F T X → Bool
  must_wait task s = asked cells.must_wait false task s.cells
