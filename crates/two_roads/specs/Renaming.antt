-- The plain scheduler with other outputs and other wakers in the place of its own.
use Rattle.std.specs.Prelude.{◌≡◌, ℕ, ◌≤◌, Bool, true, false, List, [], ◌∷◌, map, length, Option, Some}
use Rattle.std.specs.Option.{option_map}
use Rattle.executor_parts.specs.declared.mark.Mark.TheVariants.{Plain as PlainMark, Urgent}
use Rattle.task_moves.specs.AbstractTask.{AbstractTask}
use Rattle.plain_scheduler.specs.State.{Due, Future, Lying, Taker, Try, Tick, Run, End, Closed, Gave, Code, Poll, Drop, Lose, PollOwn}
use Rattle.plain_scheduler.specs.State.{DropOwn}
use Rattle.plain_scheduler.specs.State.{Close, Event, Polls, Drops, Loses, Calls, Answers, Choice, Plain}
use Rattle.plain_scheduler.specs.State.{Answer, Made, Full, NoMemory, Yes, No, Pending, Ready, Gives, Cancelled, Finished, Done}
use Rattle.plain_scheduler.specs.Lists.{any}
use Rattle.plain_scheduler.specs.Moves.{is_common, is_kept}
use Rattle.plain_scheduler.specs.Calls.{Call, Spawn, TryTick, IsEmpty, Wake, Use, Copy, Release, PollHandle, Cancel, Detach, DropHandle}
use Rattle.plain_scheduler.specs.Calls.{NewTick, PollTick, DropTick, NewRun, PollRun, DropRun, Leak, DropExecutor, Pends, EndsWith, Ends}
use Rattle.plain_scheduler.specs.Calls.{does}
use Rattle.plain_scheduler.specs.Searches.{Search, finds, searches}

module _ {A B : Type 0} (waker : A → B) where
  abbrev pub lying_as : Lying A → Lying B
  lying_as l = record { who = l.who; waker = option_map waker l.waker }

  abbrev pub taker_as : Taker A → Taker B
  taker_as Try = Try
  taker_as (Tick t w) = Tick t (waker w)
  taker_as (Run r w) = Run r (waker w)

module _ {T U : Type 0} (output : T → U) where
  abbrev pub end_as : End T → End U
  end_as Closed = Closed
  end_as (Gave v) = Gave (output v)

  abbrev pub answer_as : Answer T → Answer U
  answer_as Made = Made
  answer_as Full = Full
  answer_as NoMemory = NoMemory
  answer_as Yes = Yes
  answer_as No = No
  answer_as Pending = Pending
  answer_as Ready = Ready
  answer_as (Gives v) = Gives (output v)
  answer_as Cancelled = Cancelled
  answer_as Finished = Finished
  answer_as Done = Done

module _ {T U A B : Type 0} (output : T → U) (waker : A → B) where
  abbrev pub task_as : AbstractTask T A → AbstractTask U B
  task_as t =
      record {
        phase = t.phase;
        closed = t.closed;
        handle = t.handle;
        wakers = t.wakers;
        output = option_map output t.output;
        awaiter = option_map waker t.awaiter;
        infos = t.infos;
      }

  abbrev pub future_as : Future T A → Future U B
  future_as f = record { task = task_as f.task; mark = f.mark; is_dropped = f.is_dropped }

  abbrev pub code_as : Code T A → Code U B
  code_as (Poll f by) = Poll f (taker_as waker by)
  code_as (Drop f end by) = Drop f (end_as output end) (taker_as waker by)
  code_as (Lose awaiter by) = Lose (option_map waker awaiter) (option_map (taker_as waker) by)
  code_as (PollOwn r w) = PollOwn r (waker w)
  code_as (DropOwn r answer) = DropOwn r (answer_as output answer)
  code_as (Close fs all) = Close fs all

  abbrev pub event_as : Event T A → Event U B
  event_as (Polls f) = Polls f
  event_as (Drops f) = Drops f
  event_as (Loses v) = Loses (output v)
  event_as (Calls w) = Calls (waker w)
  event_as (Answers a) = Answers (answer_as output a)

  abbrev pub renamed : Plain T A → Plain U B
  renamed p =
      record {
        limit = p.limit;
        is_static = p.is_static;
        futures = map future_as p.futures;
        due = p.due;
        lying = map (lying_as waker) p.lying;
        runs = p.runs;
        inside = map code_as p.inside;
        events = map event_as p.events;
      }

  abbrev pub call_as : Call T A → Call U B
  call_as (Spawn mark) = Spawn mark
  call_as TryTick = TryTick
  call_as IsEmpty = IsEmpty
  call_as (Wake f) = Wake f
  call_as (Use f) = Use f
  call_as (Copy f) = Copy f
  call_as (Release f) = Release f
  call_as (PollHandle f w) = PollHandle f (waker w)
  call_as (Cancel f) = Cancel f
  call_as (Detach f) = Detach f
  call_as (DropHandle f) = DropHandle f
  call_as NewTick = NewTick
  call_as (PollTick t w) = PollTick t (waker w)
  call_as (DropTick t) = DropTick t
  call_as NewRun = NewRun
  call_as (PollRun r w) = PollRun r (waker w)
  call_as (DropRun r) = DropRun r
  call_as Leak = Leak
  call_as DropExecutor = DropExecutor
  call_as Pends = Pends
  call_as (EndsWith v) = EndsWith (output v)
  call_as Ends = Ends

-- memory is refused
abbrev pub is_refusal : {T A : Type 0} → Event T A → Bool
is_refusal (Answers NoMemory) = true
is_refusal _ = false

-- futures of both marks are due that no run keeps
pub record AreBothDue (due : List Due) : Type 0 where
  pub plain : any (is_common PlainMark) due ≡ true
  pub urgent : any (is_common Urgent) due ≡ true

-- nor are there any that no run keeps
pub record IsNoneCommon (due : List Due) : Type 0 where
  pub plain : any (is_common PlainMark) due ≡ false
  pub urgent : any (is_common Urgent) due ≡ false

-- what run r takes of these is the first that it keeps itself, and what it then keeps matters; where it keeps none, where it looks first
-- matters while futures of both marks are due, and whom it robs, and of how many more, only where all are kept
pub record TakesSo (x y : Choice) (r : ℕ) (due : List Due) : Type 0 where
  pub keeps : x.keeps ≡ y.keeps
  pub first : any (is_kept r) due ≡ false → AreBothDue due → x.first ≡ y.first
  pub robs : any (is_kept r) due ≡ false → IsNoneCommon due → x.robs ≡ y.robs
  pub moves : any (is_kept r) due ≡ false → IsNoneCommon due → x.moves ≡ y.moves

-- which of the two choices have to be the same: at which mark is looked first matters where a try or a tick takes a future while
-- futures of both are due; how a run takes and keeps matters only where one searches, and any is due there
module _ (c d : Choice) where
  abbrev pub FirstAlike : List Due → Type 0
  FirstAlike due = AreBothDue due → c.first ≡ d.first

  module _ {T A : Type 0} (wakes : A → Option ℕ) where
    abbrev pub SearchesAlike : Plain T A → Call T A → Type 0
    SearchesAlike p call = (x : Search T A) → searches wakes c call p ≡ Some x → finds x ≡ true → TakesSo c d x.run x.at.due

    abbrev pub CallsAlike : Plain T A → Call T A → Type 0
    CallsAlike p TryTick = FirstAlike p.due
    CallsAlike p (PollTick t w) = FirstAlike p.due
    CallsAlike p Pends = SearchesAlike p Pends
    CallsAlike p Ends = SearchesAlike p Ends
    CallsAlike p _ = Unit {0}

-- one call, by two choices: the same is refused, and both tell who lay down last
pub record ChooseAlike {T A : Type 0} (wakes : A → Option ℕ) (c d : Choice) (p : Plain T A) (call : Call T A) : Type 0 where
  pub refusal : c.refusal ≡ d.refusal
  pub tells : length p.lying ≤ c.tells
  pub tells_so : length p.lying ≤ d.tells
  pub takes : CallsAlike c d wakes p call

-- the same calls but for these names, by choices that are alike
module _ {T U A B : Type 0} (output : T → U) (waker : A → B) (wakes : A → Option ℕ) where
  pub data AreSame : List (Choice × Call T A) → Plain T A → List (Choice × Call U B) → Type 0 where
    none : (p : Plain T A) → AreSame [] p []
    more : (c d : Choice) (call : Call T A) (cs : List (Choice × Call T A)) (p : Plain T A) (ds : List (Choice × Call U B))
        → ChooseAlike wakes c d p call → AreSame cs (does wakes c call p) ds
        → AreSame ((c, call) ∷ cs) p ((d, call_as output waker call) ∷ ds)
