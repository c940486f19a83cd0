-- What goes in and comes out: whatever futures are taken to weigh, as 1 for one of them and 0 for all others.
use Rattle.std.specs.Prelude.{◌≡◌, ℕ, ◌+◌, List, [], ◌∷◌, Option, Some, None, Result, Ok, Err}
use Rattle.executor_parts.specs.Places.{Entry}
use Rattle.task_moves.specs.declared.local_task.answers.Back.{Back}
use Rattle.task_moves.specs.declared.local_task.answers.Back.TheVariants.{Ready, Pending}
use Rattle.solo.specs.declared.owed.Found.{Found}
use Rattle.solo.specs.declared.owed.Found.TheVariants.{Nothing, Poll as Polls, Drop as Drops, Gone}
use Rattle.solo.specs.declared.owed.Owed.{Owed}
use Rattle.solo.specs.declared.runs.Ran.{Ran}
use Rattle.solo.specs.declared.runs.Missed.{Missed}
use Rattle.solo.specs.declared.ticks.Look.{Look}
use Rattle.solo.specs.declared.ticks.Look.TheVariants.{Took, Again, Nothing as NothingSeen}
use Rattle.solo.specs.declared.ticks.Ticked.{Ticked}
use Rattle.solo.specs.declared.ticks.Ticker.{Ticker}
use Rattle.solo.specs.declared.solo.Solo.{Solo}
use Rattle.solo.specs.Solo as solo
use Rattle.solo.specs.Ticks as ticks
use Rattle.solo.specs.Runs as runs
use Rattle.solo.specs.Closing as closing
use Rattle.solo_laws.specs.Calls.{Call, Course, Spawn, Take, Settle, Finish}
use Rattle.solo_laws.specs.Calls.{Cancel, Detach, Retract, TickTake, TickSearch, TickSleep, RunTake}
use Rattle.solo_laws.specs.Calls.{RunSearch, Drain}
use Rattle.solo_laws.specs.Futures.{sum_of}

module _ {F : Type 0} (weigh : F → ℕ) where
  abbrev pub weight_of : Option F → ℕ
  weight_of None = 0
  weight_of (Some future) = weigh future

  -- of the futures in these entries
  abbrev pub weight_in : {W : Type 0} → List (Entry F W) → ℕ
  weight_in [] = 0
  weight_in (e ∷ es) = weight_of e.future + weight_in es

  -- of a future that is handed out to be polled or dropped
  abbrev pub weight_found : Found F → ℕ
  weight_found (Polls lent future) = weigh future
  weight_found (Drops lent future) = weigh future
  weight_found Nothing = 0
  weight_found Gone = 0

  abbrev pub weight_seen : Look F → ℕ
  weight_seen (Took found) = weight_found found
  weight_seen Again = 0
  weight_seen NothingSeen = 0

  -- of a future that is handed back after its poll
  abbrev pub weight_back : {T : Type 0} → Back F T → ℕ
  weight_back (Ready output) = 0
  weight_back (Pending future) = weigh future

  module _ {X : Type 0} where
    abbrev pub weight_searched : Result (Ticked F X) Ticker → ℕ
    weight_searched (Ok ticked) = weight_seen ticked.look
    weight_searched (Err ticker) = 0

    abbrev pub weight_sought : Result (Ran F X) Missed → ℕ
    weight_sought (Ok ran) = weight_seen ran.ticked.look
    weight_sought (Err missed) = 0

  module _ {T X : Type 0} where
    abbrev pub weight_owed : Option (Owed F T X) → ℕ
    weight_owed None = 0
    weight_owed (Some owed) = weight_of owed.future

    -- of the futures that an executor has
    abbrev pub weight_inside : Solo F T X → ℕ
    weight_inside s = weight_in s.table.entries + weight_in s.going.entries

    -- of the future that a call hands in: one that is spawned and accepted, or comes back from its poll
    abbrev pub handed_in : Call F T X → ℕ
    handed_in (Spawn mark future) = weigh future
    handed_in (Settle lent back) = weight_back back
    handed_in _ = 0

    -- of the future that a call hands out, to be polled or dropped
    abbrev pub handed_out : Call F T X → Solo F T X → ℕ
    handed_out Take s = weight_found (solo.take_answer s).found
    handed_out (Settle lent back) s = weight_of (solo.settle_answer lent back s).future
    handed_out (Finish lent) s = weight_of (solo.finish_answer lent s).future
    handed_out (Cancel task) s = weight_of (solo.cancel_answer task s).future
    handed_out (Detach task) s = weight_of (solo.detach_answer task s).future
    handed_out (Retract task) s = weight_of (closing.retract_answer task s).future
    handed_out (TickTake ticker waker) s = weight_seen (ticks.take_answer ticker waker s).look
    handed_out (TickSearch ticker) s = weight_searched (ticks.search_answer ticker s)
    handed_out (TickSleep ticker waker) s = weight_seen (ticks.slept_answer ticker waker s).look
    handed_out (RunTake runner ticker waker start) s = weight_seen (runs.take_answer runner ticker waker start s).ticked.look
    handed_out (RunSearch runner ticker start) s = weight_sought (runs.search_answer runner ticker start s)
    handed_out Drain s = weight_owed (closing.drain_answer s)
    handed_out _ s = 0

    -- of all that a list of calls hands out
    abbrev pub all_out : (calls : List (Call F T X)) (first last : Solo F T X) → Course calls first last → ℕ
    all_out [] first last does = 0
    all_out (call ∷ calls) first last does = handed_out call first + all_out calls does.0 last does.2

    -- what was handed in is inside, or was handed out again
    abbrev pub Balances : (calls : List (Call F T X)) (first last : Solo F T X) → Course calls first last → Type 0
    Balances calls first last does = sum_of handed_in calls ≡ weight_inside last + all_out calls first last does
