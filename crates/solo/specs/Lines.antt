-- The executor's two queues, by the marks of the tasks in them, and the turns that say at which one a search looks first.
use Rattle.std.specs.Prelude.{ℕ, ◌+◌, ◌^◌, ◌%◌, ◌==◌, ◌&&◌, Bool, Option, Some, None, length, slice_get}
use Rattle.queue_steps.specs.ClosableQueue.{ClosableQueue, new_queue, count_of_new, taken as without_first, shut}
use Rattle.executor_parts.specs.declared.mark.Mark.{Mark}
use Rattle.executor_parts.specs.declared.mark.Mark.TheVariants.{Plain, Urgent}
use Rattle.executor_parts.specs.Marks.{other}
use Rattle.solo.specs.declared.names.Task.{Task}
use Rattle.solo.specs.declared.lines.FromLines.{FromLines}
use Rattle.solo.specs.Line.{pushed}
use Rattle.solo.specs.Cells.{choose}

pub record LinesValue : Type 0 where
  pub urgent : ClosableQueue Task
  pub plain : ClosableQueue Task
  -- the number of the next turn
  pub turn : ℕ

abbrev pub line_of : Mark → LinesValue → ClosableQueue Task
line_of Plain l = l.plain
line_of Urgent l = l.urgent

abbrev pub with_line : Mark → ClosableQueue Task → LinesValue → LinesValue
with_line Plain line l = record l { plain = line }
with_line Urgent line l = record l { urgent = line }

abbrev pub new_lines : ℕ → LinesValue
new_lines limit = record {
  urgent = new_queue (Some limit) (count_of_new limit);
  plain = new_queue (Some limit) (count_of_new limit);
  turn = 0;
}

-- a task comes last in the queue of its mark, where there is a place
abbrev pub pushed_in : Mark → Task → LinesValue → LinesValue
pushed_in mark task l = with_line mark (pushed task (line_of mark l)) l

abbrev pub first_of : Mark → LinesValue → Option Task
first_of mark l = slice_get (line_of mark l).items 0

abbrev pub popped_from : Mark → LinesValue → LinesValue
popped_from mark l = with_line mark (without_first (line_of mark l)) l

abbrev pub taken_by : Option Task → Mark → LinesValue → LinesValue
taken_by (Some task) mark l = l
taken_by None mark l = popped_from (other mark) l

abbrev pub found_by : Option Task → Mark → LinesValue → FromLines
found_by (Some task) mark l = record { task = Some task; mark = mark }
found_by None mark l = record { task = first_of (other mark) l; mark = other mark }

-- the first task of this queue leaves it, or else the first of the other one
abbrev pub taken_from : Mark → LinesValue → LinesValue
taken_from mark l = taken_by (first_of mark l) mark (popped_from mark l)

abbrev pub found_from : Mark → LinesValue → FromLines
found_from mark l = found_by (first_of mark l) mark (popped_from mark l)

-- of eight turns the last looks at the plain queue first
abbrev pub mark_of_turn : ℕ → Mark
mark_of_turn turn = choose (turn % 8 == 7) Plain Urgent

-- a turn is taken
abbrev pub turned : LinesValue → LinesValue
turned l = record l { turn = (l.turn + 1) % 2 ^ 64 }

-- the first task of the queue that the turn names leaves it, or else the first of the other one
abbrev pub searched : LinesValue → LinesValue
searched l = taken_from (mark_of_turn l.turn) (turned l)

abbrev pub search_answer : LinesValue → FromLines
search_answer l = found_from (mark_of_turn l.turn) (turned l)

-- no task waits in either queue
abbrev pub is_empty : LinesValue → Bool
is_empty l = (length l.urgent.items == 0) && (length l.plain.items == 0)

abbrev pub shut_both : LinesValue → LinesValue
shut_both l = record l { urgent = shut l.urgent; plain = shut l.plain }
