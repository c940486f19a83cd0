-- How often a task stands in the queues of an executor, and how often calls hand it out and in as one that isn't queued any more.
use Rattle.std.specs.Prelude.{◌≤◌, ℕ, ◌+◌, ◌==◌, Bool, true, false, ◌&&◌, List, [], ◌∷◌, Option, Some, None, Result, Ok, Err}
use Rattle.std.specs.List.{sum_by}
use Rattle.solo.specs.declared.names.Task.{Task}
use Rattle.solo.specs.declared.own_queues.Own.{Own}
use Rattle.solo.specs.declared.owed.Owed.{Owed}
use Rattle.solo.specs.declared.owed.Told.{Told}
use Rattle.solo.specs.declared.runs.Missed.{Missed}
use Rattle.solo.specs.declared.runs.Ran.{Ran}
use Rattle.solo.specs.declared.runs.RunLeft.{RunLeft}
use Rattle.solo.specs.declared.runs.RunLeft.TheVariants.{Scheduled, Gone}
use Rattle.solo.specs.declared.ticks.Ticked.{Ticked}
use Rattle.solo.specs.declared.ticks.Ticker.{Ticker}
use Rattle.solo.specs.declared.solo.Solo.{Solo}
use Rattle.solo.specs.Lines.{LinesValue}
use Rattle.solo.specs.OwnQueues as own
use Rattle.solo.specs.Solo as solo
use Rattle.solo.specs.Ticks as ticks
use Rattle.solo.specs.Runs as runs
use Rattle.solo.specs.Closing as closing
use Rattle.solo_laws.specs.Calls.{Call, Does, Course, Spawn, Settle, Finish, Wake, WakeAndRelease, Release, Cancel, Detach, Retract}
use Rattle.solo_laws.specs.Calls.{TickTake, TickSearch, TickSleep, TickLeave, RunTake, RunSearch, RunLeave, RunDrain, LeakNext, Drain}
use Rattle.solo_laws.specs.Futures.{sum_of}

abbrev pub one_if : Bool → ℕ
one_if true = 1
one_if false = 0

abbrev pub is_task : Task → Task → Bool
is_task t u = (u.key == t.key) && (u.number == t.number)

module _ (t : Task) where
  abbrev pub one : Task → ℕ
  one u = one_if (is_task t u)

  -- how often the task stands among these
  abbrev pub times_in : List Task → ℕ
  times_in tasks = sum_by one tasks

  -- how often it stands in the urgent queue and in the plain one
  abbrev pub times_lined : LinesValue → ℕ
  times_lined l = times_in l.urgent.items + times_in l.plain.items

  abbrev pub times_own : Own → ℕ
  times_own q = times_in q.queue

  abbrev pub times_of : Option Task → ℕ
  times_of None = 0
  times_of (Some u) = one u

  abbrev pub times_left : Option (List Task) → ℕ
  times_left None = 0
  times_left (Some tasks) = times_in tasks

  -- the task that a call hands out since the queue turned it away
  module _ {F X : Type 0} where
    abbrev pub times_searched : Result (Ticked F X) Ticker → ℕ
    times_searched (Ok ticked) = times_of ticked.returned
    times_searched (Err ticker) = 0

    abbrev pub times_sought : Result (Ran F X) Missed → ℕ
    times_sought (Ok ran) = times_of ran.ticked.returned
    times_sought (Err missed) = 0

  module _ {X : Type 0} where
    abbrev pub times_told : Option (Told X) → ℕ
    times_told None = 0
    times_told (Some told) = times_of told.returned

    -- and those of a run that leaves, which are to be queued yet
    abbrev pub times_run_left : RunLeft X → ℕ
    times_run_left (Scheduled leaving told) = times_left leaving.own + times_of told.returned
    times_run_left (Gone dropped) = times_of dropped.told.returned

  module _ {F T X : Type 0} where
    abbrev pub times_owed : Option (Owed F T X) → ℕ
    times_owed None = 0
    times_owed (Some owed) = times_of owed.returned

    -- how often it stands in the executor's two queues and in the own queues of runs
    abbrev pub times_queued : Solo F T X → ℕ
    times_queued s = times_lined s.lines + sum_by times_own s.runs.queues

    -- one that was turned away comes back to lose its turn, and those of a run that leaves to be queued
    abbrev pub brought_back : Call F T X → ℕ
    brought_back (Retract task) = one task
    brought_back (RunDrain leaving) = times_left leaving.own
    brought_back _ = 0

    abbrev pub handed_away : (call : Call F T X) (old new : Solo F T X) → Does call old new → ℕ
    handed_away (Spawn mark future) old new does = times_of does.0.told.returned
    handed_away (Settle lent back) old new does = times_of (solo.settle_answer lent back old).returned
    handed_away (Finish lent) old new does = times_of (solo.finish_answer lent old).returned
    handed_away (Wake task) old new does = times_of (solo.wake_answer task old).returned
    handed_away (WakeAndRelease task) old new does = times_of (solo.wake_and_release_answer task old).returned
    handed_away (Release task) old new does = times_of (solo.release_answer task old).returned
    handed_away (Cancel task) old new does = times_of (solo.cancel_answer task old).returned
    handed_away (Detach task) old new does = times_of (solo.detach_answer task old).returned
    handed_away (TickTake ticker waker) old new does = times_of (ticks.take_answer ticker waker old).returned
    handed_away (TickSearch ticker) old new does = times_searched (ticks.search_answer ticker old)
    handed_away (TickSleep ticker waker) old new does = times_of (ticks.slept_answer ticker waker old).returned
    handed_away (TickLeave ticker) old new does = times_of (ticks.leave_answer ticker old).told.returned
    handed_away (RunTake runner ticker waker start) old new does =
        times_of (runs.take_answer runner ticker waker start old).ticked.returned
    handed_away (RunSearch runner ticker start) old new does = times_sought (runs.search_answer runner ticker start old)
    handed_away (RunLeave runner) old new does = times_left (own.queue_of runner.number old.runs.queues)
    handed_away (RunDrain leaving) old new does = times_run_left (runs.drain_answer leaving old)
    handed_away LeakNext old new does = times_told (closing.leak_answer old)
    handed_away Drain old new does = times_owed (closing.drain_answer old)
    handed_away _ old new does = 0

    -- in all that a list of calls hands out
    abbrev pub all_away : (calls : List (Call F T X)) (first last : Solo F T X) → Course calls first last → ℕ
    all_away [] first last does = 0
    all_away (call ∷ calls) first last does = handed_away call first does.0 does.1 + all_away calls does.0 last does.2

    -- it stands in queues and in what was handed out once more at most than it was brought back
    abbrev pub StandsOnce : (calls : List (Call F T X)) (first last : Solo F T X) → Course calls first last → Type 0
    StandsOnce calls first last does = times_queued last + all_away calls first last does ≤ sum_of brought_back calls + 1
