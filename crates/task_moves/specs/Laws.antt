-- What holds of every course of one task.
use Rattle.std.specs.Prelude.{◌≡◌, ◌+◌, ◌≤◌, ◌^◌, Bool, true, false, ◌&&◌, ◌||◌, not, if◌then◌else◌, Option, Some, None, List, [], ◌∷◌, count_by}
use Rattle.std.specs.List.{list_any}
use Rattle.task_moves.specs.declared.moves.state.State.{State}
use Rattle.task_moves.specs.declared.moves.owed.Move.{Move}
use Rattle.task_moves.specs.declared.moves.owed.Move.TheVariants.{WakeByReference, Wake, EndReady, EndPending}
use Rattle.task_moves.specs.declared.moves.owed.FutureDebt.{FutureDebt}
use Rattle.task_moves.specs.declared.moves.owed.FutureDebt.TheVariants.{PollFuture, DropFuture}
use Rattle.task_moves.specs.declared.moves.owed.Answer.{Answer}
use Rattle.task_moves.specs.declared.moves.owed.Answer.TheVariants.{Output}
use Rattle.task_moves.specs.Moves.{schedule}
use Rattle.task_moves.specs.Course.{Made, Course, unfinished, is_possible, beginning, course_from}

abbrev pub EveryCourse : (Course → Type 0) → Type 0
EveryCourse P = (kinds : List Move) → P (course_from kinds beginning)

-- P holds of each move that is possible after any moves, and of the state that it finds
abbrev pub EveryPossible : (Move → State → Type 0) → Type 0
EveryPossible P = EveryCourse (λ c. (kind : Move) → is_possible kind c.hands ≡ true → P kind c.state)

-- there is at most one Runnable, unfinished run or closing call
abbrev pub HasOneRunnable : Course → Type 0
HasOneRunnable c = unfinished c.hands ≤ 1

-- the count is the living wakers, and one for a Runnable, an unfinished run or a closing call
abbrev pub IsCounted : Course → Type 0
IsCounted c = c.state.references ≡ c.hands.wakers + unfinished c.hands

-- and it stays far below what its word has room for
abbrev pub IsSmall : Course → Type 0
IsSmall c = c.state.references ≤ 2 ^ 40 + 1

abbrev pub is_wake_kind : Move → Bool
is_wake_kind WakeByReference = true
is_wake_kind Wake = true
is_wake_kind _ = false

-- a wake of a task that is neither completed nor closed
abbrev pub is_open_wake : Made → Bool
is_open_wake m = is_wake_kind m.kind && not (m.before.completed || m.before.closed)

-- a wake that has set the mark
abbrev pub sets_scheduled : Made → Bool
sets_scheduled m = is_wake_kind m.kind && (not m.before.scheduled && m.after.scheduled)

abbrev pub is_poll_debt : Option FutureDebt → Bool
is_poll_debt (Some PollFuture) = true
is_poll_debt _ = false

-- a poll of the future begins
abbrev pub is_poll : Made → Bool
is_poll m = is_poll_debt m.owed.future

abbrev pub is_drop_debt : Option FutureDebt → Bool
is_drop_debt (Some DropFuture) = true
is_drop_debt _ = false

abbrev pub is_ready_kind : Move → Bool
is_ready_kind EndReady = true
is_ready_kind _ = false

-- the future has given its output
abbrev pub is_ready : Made → Bool
is_ready m = is_ready_kind m.kind

-- it has, or its drop begins
abbrev pub is_end : Made → Bool
is_end m = is_ready m || is_drop_debt m.owed.future

abbrev pub is_pending_kind : Move → Bool
is_pending_kind EndPending = true
is_pending_kind _ = false

-- a poll of a task that isn't closed has given no output
abbrev pub is_open_pending : Made → Bool
is_open_pending m = is_pending_kind m.kind && not m.before.closed

-- whether a wake has set the mark since the last poll began; the last move stands first
abbrev pub is_woken_since_poll : List Made → Bool
is_woken_since_poll [] = false
is_woken_since_poll (m ∷ earlier) = not (is_poll m) && (sets_scheduled m || is_woken_since_poll earlier)

-- a wake that set the mark owes one Runnable where the task wasn't running, and none where it was; the end of the run's poll
-- owes one exactly where there was such a wake, unless the task is closed by then
abbrev pub WakesAreOwed : List Made → Type 0
WakesAreOwed [] = Unit {0}
WakesAreOwed (m ∷ earlier) =
    (sets_scheduled m ≡ true → m.owed.schedule ≡ (if m.before.running then None else schedule false))
    × ((is_open_pending m ≡ true → m.owed.schedule ≡ (if is_woken_since_poll earlier then schedule true else None))
    × WakesAreOwed earlier)

abbrev pub HasWakesOwed : Course → Type 0
HasWakesOwed c = WakesAreOwed c.made

-- the polls are at most one more than the wakes of the open task
abbrev pub HasPollsAskedFor : Course → Type 0
HasPollsAskedFor c = count_by is_poll c.made ≤ count_by is_open_wake c.made + 1

-- no poll stands after an end
abbrev pub PollsComeBefore : List Made → Type 0
PollsComeBefore [] = Unit {0}
PollsComeBefore (m ∷ earlier) = (is_poll m ≡ true → list_any is_end earlier ≡ false) × PollsComeBefore earlier

abbrev pub IsNeverPolledAfterEnd : Course → Type 0
IsNeverPolledAfterEnd c = PollsComeBefore c.made

abbrev pub is_output_answer : Option Answer → Bool
is_output_answer (Some Output) = true
is_output_answer _ = false

abbrev pub is_given : Made → Bool
is_given m = is_output_answer m.owed.answer

abbrev pub is_output_dropped : Made → Bool
is_output_dropped m = m.owed.drop_output

-- an output that was given or dropped, once
pub record GivesOutputOnce (c : Course) : Type 0 where
  -- the future gives at most one
  pub one : count_by is_ready c.made ≤ 1
  -- it is given or dropped at most once
  pub once : count_by is_given c.made + count_by is_output_dropped c.made ≤ count_by is_ready c.made
  -- and it was, once the handle is gone
  pub all : c.hands.handle ≡ false → count_by is_given c.made + count_by is_output_dropped c.made ≡ count_by is_ready c.made
