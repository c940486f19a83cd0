-- What runs do to an executor of one owner.
use Rattle.std.specs.Prelude.{ℕ, ◌+◌, nat_lt, Bool, true, false, Option, Some, None, Result, Ok, Err, List, drop, slice_get}
use Rattle.solo.specs.declared.names.Task.{Task}
use Rattle.solo.specs.declared.names.SoloWaker.{SoloWaker}
use Rattle.solo.specs.declared.runs.Runner.{Runner}
use Rattle.solo.specs.declared.runs.Ran.{Ran}
use Rattle.solo.specs.declared.runs.Missed.{Missed}
use Rattle.solo.specs.declared.runs.Leaving.{Leaving}
use Rattle.solo.specs.declared.runs.RunLeft.{RunLeft}
use Rattle.solo.specs.declared.runs.RunLeft.TheVariants.{Scheduled, Gone}
use Rattle.solo.specs.declared.ticks.Ticker.{Ticker}
use Rattle.solo.specs.declared.ticks.Ticker.TheVariants.{Awake}
use Rattle.solo.specs.declared.ticks.Look.TheVariants.{Took}
use Rattle.solo.specs.declared.solo.Solo.{Solo}
use Rattle.solo.specs.OwnQueues as own
use Rattle.solo.specs.Cells.{choose}
use Rattle.solo.specs.Steals.{own_changed, stolen_if, sought, seek_answer}
use Rattle.solo.specs.Ticks as ticks
use Rattle.solo.specs.Turns as turns

abbrev pub new_runner : ℕ → Runner
new_runner number = record { number = number; counted = 0; taken = 0 }

abbrev pub awake : Ticker
awake = Awake ticks.its_room

-- the task that it counts next is a 64th
abbrev pub is_steal_due : Runner → Bool
is_steal_due r = choose (nat_lt r.counted 63) false true

-- one more is counted
abbrev pub counted : Runner → Runner
counted r = record r { counted = choose (nat_lt r.counted 63) (r.counted + 1) 0 }

-- the task that it takes next is the 200th since it last let others go first
abbrev pub gives_way : Runner → Bool
gives_way r = choose (nat_lt r.taken 199) false true

-- one more is taken
abbrev pub taken : Runner → Runner
taken r = record r { taken = choose (nat_lt r.taken 199) (r.taken + 1) 0 }

abbrev pub after_search : Option Task → Runner → Runner
after_search (Some task) r = taken (counted r)
after_search None r = r

abbrev pub first_left : Option (List Task) → Option Task
first_left None = None
first_left (Some tasks) = slice_get tasks 0

abbrev pub rest_left : Option (List Task) → Option (List Task)
rest_left None = None
rest_left (Some tasks) = Some (drop 1 tasks)

module _ {F T X : Type 0} where
  -- room among the sleepers, and an own queue
  abbrev pub made : Solo F T X → Solo F T X
  made s = own_changed (own.opened s.runs) (ticks.roomy s)

  -- others look at its own queue
  abbrev pub begun : Runner → Solo F T X → Solo F T X
  begun runner s = own_changed (own.listed runner.number s.runs) s

  -- it wakes up, a sleeper is told, unless the waker's release has told one; at every 64th it steals; then the task's turn begins
  abbrev pub told : Ticker → Solo F T X → Solo F T X
  told ticker s = ticks.told_unless (ticks.wake_up_answer ticker s).told.sleeper (ticks.woke_up ticker s)

  abbrev pub found : Runner → Ticker → Task → Solo F T X → Solo F T X
  found runner ticker task s = turns.begun task (stolen_if (is_steal_due runner) runner.number (told ticker s))

  abbrev pub found_answer : Runner → Ticker → Option (SoloWaker X) → Task → Bool → Solo F T X → Ran F X
  found_answer runner ticker spare task walked s =
      let dropped = ticks.wake_up_answer ticker s in
      record {
        ticked = record {
          ticker = awake;
          look = Took (turns.begin_answer task (stolen_if (is_steal_due runner) runner.number (told ticker s)));
          sleeper = ticks.tell_unless_answer dropped.told.sleeper (ticks.woke_up ticker s);
          old = dropped.old;
          spare = spare;
          returned = dropped.told.returned;
        };
        gives_way = gives_way runner;
        has_walked = walked;
      }

  abbrev pub runner_after : Runner → ℕ → Solo F T X → Runner
  runner_after runner start s = after_search (seek_answer runner.number start s).task runner

  abbrev pub took_by : Option Task → Runner → Ticker → SoloWaker X → Solo F T X → Solo F T X
  took_by (Some task) runner ticker waker s = found runner ticker task s
  took_by None runner ticker waker s = ticks.fallen_asleep ticker waker s

  abbrev pub take_answer_by : Option Task → Bool → Runner → Ticker → SoloWaker X → Solo F T X → Ran F X
  take_answer_by (Some task) walked runner ticker waker s = found_answer runner ticker (Some waker) task walked s
  take_answer_by None walked runner ticker waker s =
      record { ticked = ticks.sleep_answer ticker waker s; gives_way = false; has_walked = walked }

  -- what it finds is taken; where there is nothing it falls asleep
  abbrev pub took : Runner → Ticker → SoloWaker X → ℕ → Solo F T X → Solo F T X
  took runner ticker waker start s =
      took_by (seek_answer runner.number start s).task runner ticker waker (sought runner.number start s)

  abbrev pub take_answer : Runner → Ticker → SoloWaker X → ℕ → Solo F T X → Ran F X
  take_answer runner ticker waker start s =
      let found = seek_answer runner.number start s in
      take_answer_by found.task found.has_walked runner ticker waker (sought runner.number start s)

  abbrev pub searched_by : Option Task → Runner → Ticker → Solo F T X → Solo F T X
  searched_by (Some task) runner ticker s = found runner ticker task s
  searched_by None runner ticker s = s

  abbrev pub search_answer_by : Option Task → Bool → Runner → Ticker → Solo F T X → Result (Ran F X) Missed
  search_answer_by (Some task) walked runner ticker s = Ok (found_answer runner ticker None task walked s)
  search_answer_by None walked runner ticker s = Err (record { ticker = ticker; has_walked = walked })

  -- what it finds is taken; where there is nothing its ticker comes back
  abbrev pub searched : Runner → Ticker → ℕ → Solo F T X → Solo F T X
  searched runner ticker start s =
      searched_by (seek_answer runner.number start s).task runner ticker (sought runner.number start s)

  abbrev pub search_answer : Runner → Ticker → ℕ → Solo F T X → Result (Ran F X) Missed
  search_answer runner ticker start s =
      let found = seek_answer runner.number start s in
      search_answer_by found.task found.has_walked runner ticker (sought runner.number start s)

  -- its own queue goes from the others
  abbrev pub left : Runner → Solo F T X → Solo F T X
  left runner s = own_changed (own.closed runner.number s.runs) s

  abbrev pub leave_answer : Runner → Ticker → Solo F T X → Leaving
  leave_answer runner ticker s = record { own = own.queue_of runner.number s.runs.queues; ticker = ticker }

  abbrev pub drained_by : Option Task → Ticker → Solo F T X → Solo F T X
  drained_by (Some task) ticker s = turns.scheduled task s
  drained_by None ticker s = ticks.left ticker s

  abbrev pub drain_answer_by : Option Task → Leaving → Solo F T X → RunLeft X
  drain_answer_by (Some task) leaving s =
      Scheduled (record { own = rest_left leaving.own; ticker = leaving.ticker }) (turns.schedule_answer task s)
  drain_answer_by None leaving s = Gone (ticks.leave_answer leaving.ticker s)

  -- the first task that is left is scheduled; where none is the run leaves the sleepers
  abbrev pub drained : Leaving → Solo F T X → Solo F T X
  drained leaving s = drained_by (first_left leaving.own) leaving.ticker s

  abbrev pub drain_answer : Leaving → Solo F T X → RunLeft X
  drain_answer leaving s = drain_answer_by (first_left leaving.own) leaving s
