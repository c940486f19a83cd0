-- The course of one task: a list of moves, by whatever parties and in whatever order. Which moves are possible follows from
-- what the parties have in hand, and that follows from what each move owed. It is read off no mark.
use Rattle.std.specs.Prelude.{ℕ, ◌+◌, ◌-◌, Bool, true, false, Option, Some, None, List, [], ◌∷◌, nat_le}
use Rattle.task_moves.specs.declared.schedule_info.ScheduleInfo.{ScheduleInfo}
use Rattle.task_moves.specs.declared.moves.state.State.{State}
use Rattle.task_moves.specs.declared.moves.owed.Move.{Move}
use Rattle.task_moves.specs.declared.moves.owed.Move.TheVariants.{WakeByReference, Wake, Copy, Release, TakeUp, SettleClosed, GiveUp, EndReady, EndPending, EndClosed, DropRunnable, Cancel, Detach, Poll, LookAgain}
use Rattle.task_moves.specs.declared.moves.owed.FutureDebt.{FutureDebt}
use Rattle.task_moves.specs.declared.moves.owed.FutureDebt.TheVariants.{PollFuture}
use Rattle.task_moves.specs.declared.moves.owed.Answer.{Answer}
use Rattle.task_moves.specs.declared.moves.owed.Answer.TheVariants.{Refused}
use Rattle.task_moves.specs.declared.moves.owed.Owed.{Owed}
use Rattle.task_moves.specs.declared.moves.owed.Moved.{Moved}
use Rattle.task_moves.specs.Moves as moves

-- what the parties around a task have in hand
pub record Hands : Type 0 where
  -- whether the handle is there
  pub handle : Bool
  -- the living wakers
  pub wakers : ℕ
  -- the Runnables, those that are owed to the schedule function among them
  pub runnables : ℕ
  -- the runs whose future is being polled
  pub polls : ℕ
  -- the runs and the closing calls whose future is being dropped without a poll
  pub closings : ℕ
  -- the runs whose future is being dropped after a poll that gave no output
  pub endings : ℕ
  -- the runs and the closing calls that have still to give their reference up
  pub givings : ℕ

-- the Runnables, the unfinished runs and the closing calls
abbrev pub unfinished : Hands → ℕ
unfinished h = h.runnables + h.polls + h.closings + h.endings + h.givings

-- whether somebody has what it takes to make the move
abbrev pub is_possible : Move → Hands → Bool
is_possible WakeByReference h = nat_le 1 (h.wakers + unfinished h)
is_possible Wake h = nat_le 1 h.wakers
is_possible Copy h = nat_le 1 (h.wakers + unfinished h)
is_possible Release h = nat_le 1 h.wakers
is_possible TakeUp h = nat_le 1 h.runnables
is_possible SettleClosed h = nat_le 1 h.closings
is_possible GiveUp h = nat_le 1 h.givings
is_possible EndReady h = nat_le 1 h.polls
is_possible EndPending h = nat_le 1 h.polls
is_possible EndClosed h = nat_le 1 h.endings
is_possible DropRunnable h = nat_le 1 h.runnables
is_possible Cancel h = h.handle
is_possible Detach h = h.handle
is_possible Poll h = h.handle
is_possible LookAgain h = h.handle
-- what has to do with the awaiter alone, anybody may do at any time
is_possible _ h = true

-- what the mover has no longer
abbrev pub without : Move → Hands → Hands
without Release h = record h { wakers = h.wakers - 1 }
without TakeUp h = record h { runnables = h.runnables - 1 }
without SettleClosed h = record h { closings = h.closings - 1 }
without GiveUp h = record h { givings = h.givings - 1 }
without EndReady h = record h { polls = h.polls - 1 }
without EndPending h = record h { polls = h.polls - 1 }
without EndClosed h = record h { endings = h.endings - 1 }
without DropRunnable h = record h { runnables = h.runnables - 1 }
without _ h = h

-- one waker more, unless it was refused
abbrev pub with_copy : Option Answer → Hands → Hands
with_copy (Some Refused) h = h
with_copy _ h = record h { wakers = h.wakers + 1 }

-- the handle is gone, unless its output had to go first
abbrev pub without_handle : Option Move → Hands → Hands
without_handle (Some Detach) h = h
without_handle _ h = record h { handle = false }

-- what a copy or a detach has brought about
abbrev pub with_answer : Move → Owed → Hands → Hands
with_answer Copy owed h = with_copy owed.answer h
with_answer Detach owed h = without_handle owed.next h
with_answer _ owed h = h

abbrev pub with_runnable : Option ScheduleInfo → Hands → Hands
with_runnable (Some info) h = record h { runnables = h.runnables + 1 }
with_runnable None h = h

abbrev pub with_poll : Option FutureDebt → Hands → Hands
with_poll (Some PollFuture) h = record h { polls = h.polls + 1 }
with_poll _ h = h

abbrev pub with_next : Option Move → Hands → Hands
with_next (Some SettleClosed) h = record h { closings = h.closings + 1 }
with_next (Some EndClosed) h = record h { endings = h.endings + 1 }
with_next (Some GiveUp) h = record h { givings = h.givings + 1 }
with_next _ h = h

-- how a move leaves what is in hand, from what it owed
abbrev pub hands_after : Move → Owed → Hands → Hands
hands_after kind owed h = with_next owed.next (with_poll owed.future (with_runnable owed.schedule (with_answer kind owed (without kind h))))

-- a move that was made
pub record Made : Type 0 where
  pub kind : Move
  pub before : State
  pub after : State
  pub owed : Owed

pub record Course : Type 0 where
  pub state : State
  pub hands : Hands
  -- the moves that were made, the last one first
  pub made : List Made

-- a new task: its handle and one Runnable
abbrev pub beginning : Course
beginning =
    record {
      state = moves.made;
      hands = record { handle = true; wakers = 0; runnables = 1; polls = 0; closings = 0; endings = 0; givings = 0 };
      made = [];
    }

abbrev pub made_by : Move → Moved → Course → Course
made_by kind m c =
    record {
      state = m.state;
      hands = hands_after kind m.owed c.hands;
      made = record { kind = kind; before = c.state; after = m.state; owed = m.owed } ∷ c.made;
    }

-- a move that isn't possible is not made
abbrev pub step_by : Bool → Move → Course → Course
step_by true kind c = made_by kind (moves.after kind c.state) c
step_by false kind c = c

abbrev pub step : Move → Course → Course
step kind c = step_by (is_possible kind c.hands) kind c

-- the course that these moves make of it, the first one first
abbrev pub course_from : List Move → Course → Course
course_from [] c = c
course_from (kind ∷ kinds) c = course_from kinds (step kind c)
