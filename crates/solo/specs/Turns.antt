-- What follows a change of a task, in the order of the step machine.
use Rattle.std.specs.Prelude.{◌==◌, Bool, true, false, Option, Some, None, length}
use Rattle.executor_parts.specs.declared.mark.Mark.{Mark}
use Rattle.executor_parts.specs.declared.mark.Mark.TheVariants.{Plain}
use Rattle.executor_parts.specs.declared.places.EntryPlace.{EntryPlace}
use Rattle.executor_parts.specs.Places.{entry_in, set_future, future_of, parts_of}
use Rattle.executor_parts.specs.Sleepers.{last_waker, without_last}
use Rattle.task_moves.specs.declared.local_task.answers.Start.{Start}
use Rattle.task_moves.specs.declared.local_task.answers.Start.TheVariants.{Poll, Drop}
use Rattle.solo.specs.declared.names.Task.{Task}
use Rattle.solo.specs.declared.names.SoloWaker.{SoloWaker}
use Rattle.solo.specs.declared.names.SoloWaker.TheVariants.{Task as OfTask, Outside}
use Rattle.solo.specs.declared.owed.Told.{Told}
use Rattle.solo.specs.declared.owed.Found.{Found}
use Rattle.solo.specs.declared.owed.Found.TheVariants.{Poll as Polls, Drop as Drops, Gone}
use Rattle.solo.specs.declared.turns.Left.{Left}
use Rattle.solo.specs.declared.solo.Solo.{Solo}
use Rattle.solo.specs.Line.{accepts}
use Rattle.solo.specs.Lines.{line_of, pushed_in}
use Rattle.solo.specs.Table.{left_table}
use Rattle.solo.specs.Cells.{Kept, choose, changed, asked, tidied}
use Rattle.solo.specs.Cells as cells

module _ {X : Type 0} where
  -- nobody is told
  abbrev pub silent : Told X
  silent = record { sleeper = None; returned = None }

  abbrev pub outside : Option (SoloWaker X) → Option X
  outside (Some (Outside waker)) = Some waker
  outside (Some (OfTask task)) = None
  outside None = None

module _ {F : Type 0} where
  abbrev pub poll_found : Task → EntryPlace → Option F → Found F
  poll_found task place (Some future) = Polls (record { task = task; place = place }) future
  poll_found task place None = Gone

  abbrev pub drop_found : Task → EntryPlace → Option F → Found F
  drop_found task place (Some future) = Drops (record { task = task; place = place }) future
  drop_found task place None = Gone

module _ {F T X : Type 0} where
  -- in which queue a task belongs; one that isn't there is plain
  abbrev pub mark_of : Task → Solo F T X → Mark
  mark_of task s = asked cells.mark Plain task s.cells

  -- a task comes last in the queue of its mark, where there is a place
  abbrev pub lined : Task → Solo F T X → Solo F T X
  lined task s = record s { lines = pushed_in (mark_of task s) task s.lines }

  -- there is a place for it
  abbrev pub takes : Task → Solo F T X → Bool
  takes task s = accepts (line_of (mark_of task s) s.lines)

  -- where it has to
  abbrev pub lined_if : Bool → Task → Solo F T X → Solo F T X
  lined_if due task s = choose due (lined task s) s

  -- the cells of this name are these from now on
  abbrev pub turned : (Kept T X → Kept T X) → Task → Solo F T X → Solo F T X
  turned f task s = record s { cells = changed f task s.cells }

  abbrev pub swept : Task → Solo F T X → Solo F T X
  swept task s = record s { cells = tidied task s.cells }

  abbrev pub marked : Task → Solo F T X → Solo F T X
  marked task s = lined_if (asked cells.wake_queues false task s.cells) task (turned cells.woken task s)

  abbrev pub loosed : Task → Solo F T X → Solo F T X
  loosed task s = lined_if (asked cells.release_queues false task s.cells) task (turned cells.released task s)

  -- a task that sleeps is woken by its waker, which goes
  abbrev pub sleeper_woken : Task → Solo F T X → Solo F T X
  sleeper_woken task s = swept task (loosed task (marked task s))

  abbrev pub handed_by : Option (SoloWaker X) → Solo F T X → Solo F T X
  handed_by (Some (OfTask task)) s = sleeper_woken task s
  handed_by (Some (Outside waker)) s = s
  handed_by None s = s

  -- all sleepers have their wakers
  abbrev pub is_full : Solo F T X → Bool
  is_full s = length s.sleepers.wakers == s.sleepers.count

  abbrev pub handed : Solo F T X → Solo F T X
  handed s = choose (is_full s) (handed_by (last_waker s.sleepers.wakers) (record s { sleepers = without_last s.sleepers })) s

  -- a sleeper is told: whoever turns the flag from false to true calls the one who fell asleep last, where all sleepers have their
  -- wakers
  abbrev pub told : Solo F T X → Solo F T X
  told s = choose s.notified s (handed (record s { notified = true }))

  abbrev pub told_waker : Solo F T X → Option X
  told_waker s = choose s.notified None (choose (is_full s) (outside (last_waker s.sleepers.wakers)) None)

  -- a task is queued, and then a sleeper told; a closed queue turns it away, and then nobody is told
  abbrev pub scheduled : Task → Solo F T X → Solo F T X
  scheduled task s = choose (takes task s) (told (lined task s)) (lined task s)

  abbrev pub schedule_answer : Task → Solo F T X → Told X
  schedule_answer task s =
      choose
      (takes task s)
      (record { sleeper = told_waker (lined task s); returned = None })
      (record { sleeper = None; returned = Some task })

  abbrev pub scheduled_if : Bool → Task → Solo F T X → Solo F T X
  scheduled_if due task s = choose due (scheduled task s) s

  abbrev pub schedule_if_answer : Bool → Task → Solo F T X → Told X
  schedule_if_answer due task s = choose due (schedule_answer task s) silent

  abbrev pub let_go : Task → Solo F T X → Solo F T X
  let_go task s = swept task (scheduled_if (asked cells.release_queues false task s.cells) task (turned cells.released task s))

  abbrev pub let_go_answer : Task → Solo F T X → Told X
  let_go_answer task s = schedule_if_answer (asked cells.release_queues false task s.cells) task (turned cells.released task s)

  abbrev pub out_of : Option (Start EntryPlace) → Solo F T X → Solo F T X
  out_of (Some (Poll place)) s = record s { table = record s.table { entries = set_future place None s.table.entries } }
  out_of (Some (Drop place)) s = record s { table = record s.table { entries = set_future place None s.table.entries } }
  out_of None s = s

  abbrev pub begun : Task → Solo F T X → Solo F T X
  begun task s = out_of (asked cells.start_answer None task s.cells) (turned cells.started task s)

  abbrev pub found_by : Task → Option (Start EntryPlace) → Solo F T X → Found F
  found_by task (Some (Poll place)) s = poll_found task place (future_of (entry_in place s.table.entries))
  found_by task (Some (Drop place)) s = drop_found task place (future_of (entry_in place s.table.entries))
  found_by task None s = Gone

  abbrev pub begin_answer : Task → Solo F T X → Found F
  begin_answer task s = found_by task (asked cells.start_answer None task s.cells) s

  -- an entry's waker goes, if it has one
  abbrev pub let_go_if : Option Task → Solo F T X → Solo F T X
  let_go_if (Some task) s = let_go task s
  let_go_if None s = s

  abbrev pub let_go_if_answer : Option Task → Solo F T X → Told X
  let_go_if_answer (Some task) s = let_go_answer task s
  let_go_if_answer None s = silent

  abbrev pub left_by_parts : Option (Option F × Option Task) → Solo F T X → Solo F T X
  left_by_parts None s = s
  left_by_parts (Some parts) s = let_go_if parts.1 s

  abbrev pub without : EntryPlace → Solo F T X → Solo F T X
  without place s = record s { table = left_table place s.table }

  -- the entry of a future goes, which is dropped, and its waker with it, if it counts one
  abbrev pub left : EntryPlace → Solo F T X → Solo F T X
  left place s = left_by_parts (parts_of (entry_in place s.table.entries)) (without place s)

  abbrev pub left_answer_by : Option (Option F × Option Task) → Solo F T X → Left F X
  left_answer_by None s = record { future = None; told = silent }
  left_answer_by (Some parts) s = record { future = parts.0; told = let_go_if_answer parts.1 s }

  abbrev pub left_answer : EntryPlace → Solo F T X → Left F X
  left_answer place s = left_answer_by (parts_of (entry_in place s.table.entries)) (without place s)
