-- The end of an executor of one owner.
use Rattle.std.specs.Prelude.{List, [], ◌∷◌, map, Option, Some, None, slice_get}
use Rattle.queue_steps.specs.ClosableQueue.{ClosableQueue, taken as without_first}
use Rattle.executor_parts.specs.declared.mark.Mark.TheVariants.{Urgent}
use Rattle.executor_parts.specs.declared.places.EntryPlace.{EntryPlace}
use Rattle.executor_parts.specs.Places.{Entry, entry_in, set_future, future_of, unwoken}
use Rattle.task_moves.specs.declared.local_task.answers.Finish.{Finish}
use Rattle.task_moves.specs.declared.local_task.answers.Finish.TheVariants.{Nothing as NoAwaiter}
use Rattle.solo.specs.declared.names.Task.{Task}
use Rattle.solo.specs.declared.names.SoloWaker.{SoloWaker}
use Rattle.solo.specs.declared.names.Kind.TheVariants.{Static}
use Rattle.solo.specs.declared.owed.Owed.{Owed}
use Rattle.solo.specs.declared.owed.Told.{Told}
use Rattle.solo.specs.declared.closing.Awaited.{Awaited}
use Rattle.solo.specs.declared.solo.Solo.{Solo}
use Rattle.solo.specs.Line.{pushed}
use Rattle.solo.specs.Lines.{shut_both, taken_from, found_from}
use Rattle.solo.specs.Table.{first_parts, rest_table}
use Rattle.solo.specs.Cells.{asked}
use Rattle.solo.specs.Cells as cells
use Rattle.solo.specs.Turns as turns
use Rattle.solo.specs.Turns.{turned, swept}
use Rattle.solo.specs.Solo.{called, dropped, hands, woken, wake_answer}

abbrev pub pushed_if : Option Task → ClosableQueue Task → ClosableQueue Task
pushed_if (Some task) line = pushed task line
pushed_if None line = line

-- the wakers that entries count come last, in order
abbrev pub pushed_all : {F : Type 0} → List (Entry F (Option Task)) → ClosableQueue Task → ClosableQueue Task
pushed_all [] line = line
pushed_all (e ∷ es) line = pushed_all es (pushed_if e.waker line)

abbrev pub awaited : {X : Type 0} → Finish (SoloWaker X) → Awaited X
awaited finish = record { awaiter = called finish; old = dropped finish }

module _ {F T X : Type 0} where
  abbrev pub closed : Solo F T X → Solo F T X
  closed s = record s { table = s.going; going = s.table }

  abbrev pub finished_gone : Task → Solo F T X → Solo F T X
  finished_gone task s = swept task (turned cells.finished task s)

  abbrev pub finish_gone_answer : Task → Solo F T X → Owed F T X
  finish_gone_answer task s =
      let end = asked cells.finish_answer NoAwaiter task s.cells in
      record {
        future = None;
        rest = None;
        output = None;
        awaiter = called end;
        sleeper = None;
        old = dropped end;
        returned = None;
      }

  abbrev pub out : EntryPlace → Solo F T X → Solo F T X
  out place s = record s { table = record s.table { entries = set_future place None s.table.entries } }

  abbrev pub retracted_future : Option F → Task → Solo F T X → Solo F T X
  retracted_future (Some future) task s = s
  retracted_future None task s = finished_gone task s

  abbrev pub retracted_by : Option EntryPlace → Task → Solo F T X → Solo F T X
  retracted_by (Some place) task s = retracted_future (future_of (entry_in place s.table.entries)) task (out place s)
  retracted_by None task s = s

  abbrev pub retract_future_answer : Option F → EntryPlace → Task → Solo F T X → Owed F T X
  retract_future_answer (Some future) place task s = hands (Some future) (Some (record { task = task; place = place })) turns.silent
  retract_future_answer None place task s = finish_gone_answer task s

  abbrev pub retract_answer_by : Option EntryPlace → Task → Solo F T X → Owed F T X
  retract_answer_by (Some place) task s = retract_future_answer (future_of (entry_in place s.table.entries)) place task (out place s)
  retract_answer_by None task s = hands None None turns.silent

  -- a queued task is closed; its future is dropped, or the task finished where that is gone
  abbrev pub retracted : Task → Solo F T X → Solo F T X
  retracted task s = retracted_by (asked cells.retract_answer None task s.cells) task (turned cells.retracted task s)

  abbrev pub retract_answer : Task → Solo F T X → Owed F T X
  retract_answer task s = retract_answer_by (asked cells.retract_answer None task s.cells) task (turned cells.retracted task s)

  -- a waker that came out of the table is to be called, if there is one
  abbrev pub to_wake : Option Task → Solo F T X → Solo F T X
  to_wake waker s = record s { leaving = pushed_if waker s.leaving }

  -- it is static from now on, and no entry counts a waker; those that did are to be called, in the order of acceptance
  abbrev pub leaked : Solo F T X → Solo F T X
  leaked s = record s {
    kind = Static;
    table = record s.table { entries = map unwoken s.table.entries };
    leaving = pushed_all s.table.entries s.leaving;
  }

  abbrev pub leaving_woken : Task → Solo F T X → Solo F T X
  leaving_woken task s = swept task (turns.loosed task (woken task s))

  abbrev pub leaving_answer : Task → Solo F T X → Told X
  leaving_answer task s = wake_answer task s

  abbrev pub shut_line : Solo F T X → Solo F T X
  shut_line s = record s { lines = shut_both s.lines }

  abbrev pub line_drained_by : Option Task → Solo F T X → Solo F T X
  line_drained_by (Some task) s = retracted task s
  line_drained_by None s = s

  abbrev pub line_answer_by : Option Task → Solo F T X → Option (Owed F T X)
  line_answer_by (Some task) s = Some (retract_answer task s)
  line_answer_by None s = None

  -- the first task of the urgent queue, or else of the plain one
  abbrev pub first_lined : Solo F T X → Option Task
  first_lined s = (found_from Urgent s.lines).task

  abbrev pub first_out : Solo F T X → Solo F T X
  first_out s = record s { lines = taken_from Urgent s.lines }

  abbrev pub line_drained : Solo F T X → Solo F T X
  line_drained s = line_drained_by (first_lined (shut_line s)) (first_out (shut_line s))

  abbrev pub line_answer : Solo F T X → Option (Owed F T X)
  line_answer s = line_answer_by (first_lined (shut_line s)) (first_out (shut_line s))

  abbrev pub drained_waking : Option Task → Solo F T X → Solo F T X
  drained_waking (Some task) s = leaving_woken task s
  drained_waking None s = line_drained s

  abbrev pub waking_answer : Option Task → Solo F T X → Option (Owed F T X)
  waking_answer (Some task) s = Some (hands None None (leaving_answer task s))
  waking_answer None s = line_answer s

  abbrev pub first_left : Solo F T X → Solo F T X
  first_left s = record s { leaving = without_first s.leaving }

  abbrev pub leak_woken_by : Option Task → Solo F T X → Solo F T X
  leak_woken_by (Some task) s = leaving_woken task s
  leak_woken_by None s = s

  abbrev pub leak_answer_by : Option Task → Solo F T X → Option (Told X)
  leak_answer_by (Some task) s = Some (leaving_answer task s)
  leak_answer_by None s = None

  -- the first waker that a leak has taken out is called
  abbrev pub leak_woken : Solo F T X → Solo F T X
  leak_woken s = leak_woken_by (slice_get s.leaving.items 0) (first_left s)

  abbrev pub leak_answer : Solo F T X → Option (Told X)
  leak_answer s = leak_answer_by (slice_get s.leaving.items 0) (first_left s)

  -- the task of the first future that was handed out is woken; then those that are left in the queue
  abbrev pub leaving_drained : Solo F T X → Solo F T X
  leaving_drained s = drained_waking (slice_get s.leaving.items 0) (first_left s)

  abbrev pub drain_leaving_answer : Solo F T X → Option (Owed F T X)
  drain_leaving_answer s = waking_answer (slice_get s.leaving.items 0) (first_left s)

  abbrev pub first_going : Solo F T X → Solo F T X
  first_going s = record s { going = rest_table s.going }

  abbrev pub drained_by : Option (Option F × Option Task) → Solo F T X → Solo F T X
  drained_by (Some parts) s = to_wake parts.1 s
  drained_by None s = leaving_drained s

  abbrev pub drain_answer_by : Option (Option F × Option Task) → Solo F T X → Option (Owed F T X)
  drain_answer_by (Some parts) s = Some (hands parts.0 None turns.silent)
  drain_answer_by None s = drain_leaving_answer s

  -- first the futures that a close has taken out, then their tasks' wakes, then the tasks that are left in the queue
  abbrev pub drained : Solo F T X → Solo F T X
  drained s = drained_by (first_parts s.going.entries) (first_going s)

  abbrev pub drain_answer : Solo F T X → Option (Owed F T X)
  drain_answer s = drain_answer_by (first_parts s.going.entries) (first_going s)
