-- How a run searches for a task, and steals.
use Rattle.std.specs.Prelude.{ℕ, zero, suc, ◌+◌, ◌%◌, ◌==◌, nat_lt, Bool, false, Option, Some, None, length, drop}
use Rattle.std.specs.Int.{div_ceil}
use Rattle.solo.specs.declared.names.Task.{Task}
use Rattle.solo.specs.declared.runs.Sought.{Sought}
use Rattle.solo.specs.declared.steals.Source.{Source}
use Rattle.solo.specs.declared.steals.Source.TheVariants.{Common, Own}
use Rattle.solo.specs.declared.solo.Solo.{Solo}
use Rattle.executor_parts.specs.declared.mark.Mark.{Mark}
use Rattle.executor_parts.specs.declared.mark.Mark.TheVariants.{Plain, Urgent}
use Rattle.solo.specs.Lines.{line_of, first_of as first_in, popped_from, search_answer}
use Rattle.solo.specs.OwnQueues as own
use Rattle.solo.specs.Cells.{choose}
use Rattle.solo.specs.Solo.{popped}

-- half of the source, rounded up, at most as many as are free
abbrev pub share : ℕ → ℕ → ℕ
share length free = choose (nat_lt (div_ceil length 2) free) (div_ceil length 2) free

-- the next place, counted round
abbrev pub next_place : ℕ → ℕ → ℕ
next_place at count = choose (nat_lt (at + 1) count) (at + 1) 0

module _ {F T X : Type 0} where
  abbrev pub own_changed : own.OwnQueuesValue → Solo F T X → Solo F T X
  own_changed runs s = record s { runs = runs }

  -- without the first task of a run's own queue
  abbrev pub own_popped : ℕ → Solo F T X → Solo F T X
  own_popped number s = own_changed (own.changed (drop 1) number s.runs) s

  -- a task comes last in a run's own queue
  abbrev pub kept : ℕ → Task → Solo F T X → Solo F T X
  kept number task s = own_changed (own.changed (own.pushed task) number s.runs) s

  abbrev pub length_of : Source → Solo F T X → ℕ
  length_of (Common mark) s = length (line_of mark s.lines).items
  length_of (Own number) s = own.count_of number s.runs

  abbrev pub first_of : Source → Solo F T X → Option Task
  first_of (Common mark) s = first_in mark s.lines
  first_of (Own number) s = own.first_of number s.runs

  abbrev pub without_first : Source → Solo F T X → Solo F T X
  without_first (Common mark) s = record s { lines = popped_from mark s.lines }
  without_first (Own number) s = own_popped number s

  abbrev pub moved_on : Option Task → Solo F T X → (Task → Solo F T X) → Solo F T X
  moved_on None s more = s
  moved_on (Some task) s more = more task

  -- so many tasks are taken from the source and come last in a run's own queue, in order; a take that finds nothing ends it
  abbrev pub moved : ℕ → Source → ℕ → Solo F T X → Solo F T X
  moved zero source number s = s
  moved (suc n) source number s =
      moved_on
      (first_of source s)
      (without_first source s)
      (λ task. moved n source number (kept number task (without_first source s)))

  -- about half of the source is moved, as far as there are places
  abbrev pub stolen : Source → ℕ → Solo F T X → Solo F T X
  stolen source number s = moved (share (length_of source s) (own.free_of number s.runs)) source number s

  -- from the urgent queue, and then from the plain one
  abbrev pub stolen_if : Bool → ℕ → Solo F T X → Solo F T X
  stolen_if due number s = choose due (stolen (Common Plain) number (stolen (Common Urgent) number s)) s

  -- is the queue at this place the run's own?
  abbrev pub is_own : ℕ → ℕ → Solo F T X → Bool
  is_own number at s = own.number_at at s.runs.queues == number

  abbrev pub stolen_at : ℕ → ℕ → Solo F T X → Solo F T X
  stolen_at number at s = stolen (Own (own.number_at at s.runs.queues)) number s

  -- it steals from the queue at this place, and takes the first of its own; it passes its own
  abbrev pub looked : ℕ → ℕ → Solo F T X → Solo F T X
  looked number at s = choose (is_own number at s) s (own_popped number (stolen_at number at s))

  abbrev pub look_answer : ℕ → ℕ → Solo F T X → Option Task
  look_answer number at s = choose (is_own number at s) None (own.first_of number (stolen_at number at s).runs)

  abbrev pub round_on : Option Task → Solo F T X → Option Task × Solo F T X → Option Task × Solo F T X
  round_on (Some task) s rest = (Some task, s)
  round_on None s rest = rest

  -- so many places, from this one on, until one gives it a task
  abbrev pub round : ℕ → ℕ → ℕ → ℕ → Solo F T X → Option Task × Solo F T X
  round count number zero at s = (None, s)
  round count number (suc left) at s =
      round_on (look_answer number at s) (looked number at s) (round count number left (next_place at count) (looked number at s))

  -- round all the queues that others look at, from the place that the starting word names
  abbrev pub whole_round : ℕ → ℕ → Solo F T X → Option Task × Solo F T X
  whole_round number start s = round s.runs.listed number s.runs.listed (start % s.runs.listed) s

  abbrev pub walked : ℕ → ℕ → Solo F T X → Solo F T X
  walked number start s = (whole_round number start s).1

  abbrev pub walk_answer : ℕ → ℕ → Solo F T X → Sought
  walk_answer number start s = record { task = (whole_round number start s).0; has_walked = nat_lt 0 s.runs.listed }

  abbrev pub further_by : Option Task → Mark → ℕ → ℕ → Solo F T X → Solo F T X
  further_by (Some task) mark number start s = stolen (Common mark) number s
  further_by None mark number start s = walked number start s

  abbrev pub further_answer_by : Option Task → ℕ → ℕ → Solo F T X → Sought
  further_answer_by (Some task) number start s = record { task = Some task; has_walked = false }
  further_answer_by None number start s = walk_answer number start s

  -- it takes what a search of both queues finds, and steals from that queue; or it walks
  abbrev pub sought_further : ℕ → ℕ → Solo F T X → Solo F T X
  sought_further number start s = further_by (search_answer s.lines).task (search_answer s.lines).mark number start (popped s)

  abbrev pub seek_further_answer : ℕ → ℕ → Solo F T X → Sought
  seek_further_answer number start s = further_answer_by (search_answer s.lines).task number start (popped s)

  abbrev pub sought_by : Option Task → ℕ → ℕ → Solo F T X → Solo F T X
  sought_by (Some task) number start s = s
  sought_by None number start s = sought_further number start s

  abbrev pub seek_answer_by : Option Task → ℕ → ℕ → Solo F T X → Sought
  seek_answer_by (Some task) number start s = record { task = Some task; has_walked = false }
  seek_answer_by None number start s = seek_further_answer number start s

  -- the first of its own queue, or it searches further
  abbrev pub sought : ℕ → ℕ → Solo F T X → Solo F T X
  sought number start s = sought_by (own.first_of number s.runs) number start (own_popped number s)

  abbrev pub seek_answer : ℕ → ℕ → Solo F T X → Sought
  seek_answer number start s = seek_answer_by (own.first_of number s.runs) number start (own_popped number s)
