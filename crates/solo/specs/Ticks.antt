-- What ticks do to an executor of one owner.
use Rattle.std.specs.Prelude.{ℕ, ◌+◌, ◌-◌, nat_lt, Bool, true, false, Option, Some, None, Result, Ok, Err, length, slice_set}
use Rattle.executor_parts.specs.declared.sleepers.Room.{Room}
use Rattle.executor_parts.specs.declared.sleepers.Sleeper.{Sleeper}
use Rattle.executor_parts.specs.Sleepers.{Sleepers, flag_of, woken_up, waker_of, position_of, next_number, put_to_sleep, listed}
use Rattle.solo.specs.declared.names.Task.{Task}
use Rattle.solo.specs.declared.names.SoloWaker.{SoloWaker}
use Rattle.solo.specs.declared.names.SoloWaker.TheVariants.{Task as OfTask, Outside}
use Rattle.solo.specs.declared.ticks.Ticker.{Ticker}
use Rattle.solo.specs.declared.ticks.Ticker.TheVariants.{Awake, Asleep}
use Rattle.solo.specs.declared.ticks.Look.{Look}
use Rattle.solo.specs.declared.ticks.Look.TheVariants.{Took, Again, Nothing}
use Rattle.solo.specs.declared.ticks.Ticked.{Ticked}
use Rattle.solo.specs.declared.ticks.Dropped.{Dropped}
use Rattle.solo.specs.declared.solo.Solo.{Solo}
use Rattle.solo.specs.Cells.{choose}
use Rattle.solo.specs.Lines.{is_empty}
use Rattle.solo.specs.Solo.{popped, sought}
use Rattle.solo.specs.Turns as turns

-- the room of whoever doesn't sleep
abbrev pub its_room : Room
its_room = record { seal = record {} }

module _ {X : Type 0} where
  abbrev pub given_back : Sleepers (SoloWaker X) → Sleepers (SoloWaker X)
  given_back s = choose (nat_lt s.count s.rooms) (record s { rooms = s.rooms - 1 }) s

module _ {F T X : Type 0} where
  abbrev pub roomy : Solo F T X → Solo F T X
  roomy s = record s { sleepers = record s.sleepers { rooms = s.sleepers.rooms + 1 } }

  -- the sleepers are these, and the flag is stored
  abbrev pub stored : Sleepers (SoloWaker X) → Solo F T X → Solo F T X
  stored sleepers s = record s { sleepers = sleepers; notified = flag_of sleepers }

  abbrev pub told_unless : Option X → Solo F T X → Solo F T X
  told_unless (Some waker) s = s
  told_unless None s = turns.told s

  abbrev pub tell_unless_answer : Option X → Solo F T X → Option X
  tell_unless_answer (Some waker) s = Some waker
  tell_unless_answer None s = turns.told_waker s

  -- a sleeper's waker is let go: that of a task is released
  abbrev pub waker_dropped : Option (SoloWaker X) → Solo F T X → Solo F T X
  waker_dropped (Some (OfTask task)) s = turns.let_go task s
  waker_dropped (Some (Outside waker)) s = s
  waker_dropped None s = s

  abbrev pub drop_waker_answer : Option (SoloWaker X) → Solo F T X → Dropped X
  drop_waker_answer (Some (OfTask task)) s = record { old = None; told = turns.let_go_answer task s }
  drop_waker_answer (Some (Outside waker)) s = record { old = Some waker; told = turns.silent }
  drop_waker_answer None s = record { old = None; told = turns.silent }

  abbrev pub kept_by : Ticker → Solo F T X → Option (SoloWaker X)
  kept_by (Awake _) s = None
  kept_by (Asleep sleeper) s = waker_of sleeper.number s.sleepers.wakers

  abbrev pub up : Ticker → Solo F T X → Solo F T X
  up (Awake _) s = s
  up (Asleep sleeper) s = stored (woken_up sleeper.number s.sleepers) s

  -- it wakes up, and its waker goes
  abbrev pub woke_up : Ticker → Solo F T X → Solo F T X
  woke_up ticker s = waker_dropped (kept_by ticker s) (up ticker s)

  abbrev pub wake_up_answer : Ticker → Solo F T X → Dropped X
  wake_up_answer ticker s = drop_waker_answer (kept_by ticker s) (up ticker s)

  -- it wakes up, a sleeper is told, unless the waker's release has told one, and the task's turn begins
  abbrev pub found : Ticker → Task → Solo F T X → Solo F T X
  found ticker task s = turns.begun task (told_unless (wake_up_answer ticker s).told.sleeper (woke_up ticker s))

  abbrev pub found_answer : Ticker → Option (SoloWaker X) → Task → Solo F T X → Ticked F X
  found_answer ticker spare task s =
      let dropped = wake_up_answer ticker s in
      let woken_up = woke_up ticker s in
      record {
        ticker = Awake its_room;
        look = Took (turns.begin_answer task (told_unless dropped.told.sleeper woken_up));
        sleeper = tell_unless_answer dropped.told.sleeper woken_up;
        old = dropped.old;
        spare = spare;
        returned = dropped.told.returned;
      }

  abbrev pub look_answer : Ticker → Look F → Option (SoloWaker X) → Option (SoloWaker X) → Solo F T X → Ticked F X
  look_answer ticker look old spare s =
      let dropped = drop_waker_answer old s in
      record {
        ticker = ticker;
        look = look;
        sleeper = dropped.told.sleeper;
        old = dropped.old;
        spare = spare;
        returned = dropped.told.returned;
      }

  abbrev pub lain_anew : Bool → SoloWaker X → Solo F T X → Solo F T X
  lain_anew true waker s = stored (put_to_sleep waker s.sleepers) s
  lain_anew false waker s = s

  abbrev pub new_sleeper : Solo F T X → Ticker
  new_sleeper s = Asleep (record { number = next_number s.sleepers })

  abbrev pub sleep_anew_answer : Bool → SoloWaker X → Solo F T X → Ticked F X
  sleep_anew_answer true waker s = look_answer (new_sleeper s) Again None None s
  sleep_anew_answer false waker s = look_answer (Awake its_room) Nothing None (Some waker) s

  -- fewer sleep than have a waker could
  abbrev pub is_short : Solo F T X → Bool
  is_short s = nat_lt (length s.sleepers.wakers) s.sleepers.count

  abbrev pub replaced : ℕ → ℕ → SoloWaker X → Solo F T X → Solo F T X
  replaced at number waker s = record s { sleepers = record s.sleepers { wakers = slice_set s.sleepers.wakers at (number, waker) } }

  abbrev pub lain_again : Option ℕ → ℕ → SoloWaker X → Solo F T X → Solo F T X
  lain_again (Some at) number waker s = waker_dropped (waker_of number s.sleepers.wakers) (replaced at number waker s)
  lain_again None number waker s = choose (is_short s) (stored (listed number waker s.sleepers) s) s

  abbrev pub sleep_again_answer : Option ℕ → Sleeper → SoloWaker X → Solo F T X → Ticked F X
  sleep_again_answer (Some at) sleeper waker s =
      look_answer (Asleep sleeper) Nothing (waker_of sleeper.number s.sleepers.wakers) None (replaced at sleeper.number waker s)
  sleep_again_answer None sleeper waker s =
      choose (is_short s) (look_answer (Asleep sleeper) Again None None s) (look_answer (Asleep sleeper) Nothing None (Some waker) s)

  -- it falls asleep, or again, with a new waker for the one before
  abbrev pub fallen_asleep : Ticker → SoloWaker X → Solo F T X → Solo F T X
  fallen_asleep (Awake _) waker s = lain_anew (nat_lt s.sleepers.count s.sleepers.rooms) waker s
  fallen_asleep (Asleep sleeper) waker s = lain_again (position_of sleeper.number s.sleepers.wakers) sleeper.number waker s

  abbrev pub sleep_answer : Ticker → SoloWaker X → Solo F T X → Ticked F X
  sleep_answer (Awake _) waker s = sleep_anew_answer (nat_lt s.sleepers.count s.sleepers.rooms) waker s
  sleep_answer (Asleep sleeper) waker s = sleep_again_answer (position_of sleeper.number s.sleepers.wakers) sleeper waker s

  abbrev pub taken_by : Option Task → Ticker → SoloWaker X → Solo F T X → Solo F T X
  taken_by (Some task) ticker waker s = found ticker task s
  taken_by None ticker waker s = fallen_asleep ticker waker s

  abbrev pub take_answer_by : Option Task → Ticker → SoloWaker X → Solo F T X → Ticked F X
  take_answer_by (Some task) ticker waker s = found_answer ticker (Some waker) task s
  take_answer_by None ticker waker s = sleep_answer ticker waker s

  -- the task that a search finds is taken; where there is none it falls asleep
  abbrev pub taken : Ticker → SoloWaker X → Solo F T X → Solo F T X
  taken ticker waker s = taken_by (sought s) ticker waker (popped s)

  abbrev pub take_answer : Ticker → SoloWaker X → Solo F T X → Ticked F X
  take_answer ticker waker s = take_answer_by (sought s) ticker waker (popped s)

  abbrev pub searched_by : Option Task → Ticker → Solo F T X → Solo F T X
  searched_by (Some task) ticker s = found ticker task s
  searched_by None ticker s = s

  abbrev pub search_answer_by : Option Task → Ticker → Solo F T X → Result (Ticked F X) Ticker
  search_answer_by (Some task) ticker s = Ok (found_answer ticker None task s)
  search_answer_by None ticker s = Err ticker

  -- the task that a search finds is taken; where there is none the tick comes back
  abbrev pub searched : Ticker → Solo F T X → Solo F T X
  searched ticker s = searched_by (sought s) ticker (popped s)

  abbrev pub search_answer : Ticker → Solo F T X → Result (Ticked F X) Ticker
  search_answer ticker s = search_answer_by (sought s) ticker (popped s)

  -- whose search has found nothing falls asleep, unless a task is queued by now: then it searches again
  abbrev pub slept : Ticker → SoloWaker X → Solo F T X → Solo F T X
  slept ticker waker s = choose (is_empty s.lines) (fallen_asleep ticker waker s) s

  abbrev pub slept_answer : Ticker → SoloWaker X → Solo F T X → Ticked F X
  slept_answer ticker waker s =
      choose (is_empty s.lines) (sleep_answer ticker waker s) (look_answer ticker Again None (Some waker) s)

  -- who slept under this number goes, with its room
  abbrev pub gone : ℕ → Solo F T X → Solo F T X
  gone number s = record s { sleepers = given_back (woken_up number s.sleepers); notified = flag_of (woken_up number s.sleepers) }

  abbrev pub left_by : Option (SoloWaker X) → Solo F T X → Solo F T X
  left_by None s = turns.told s
  left_by (Some waker) s = waker_dropped (Some waker) s

  abbrev pub leave_answer_by : Option (SoloWaker X) → Solo F T X → Dropped X
  leave_answer_by None s = record { old = None; told = record { sleeper = turns.told_waker s; returned = None } }
  leave_answer_by (Some waker) s = drop_waker_answer (Some waker) s

  -- a tick goes; one without a waker was notified, and passes that on
  abbrev pub left : Ticker → Solo F T X → Solo F T X
  left (Awake _) s = record s { sleepers = given_back s.sleepers }
  left (Asleep sleeper) s = left_by (waker_of sleeper.number s.sleepers.wakers) (gone sleeper.number s)

  abbrev pub leave_answer : Ticker → Solo F T X → Dropped X
  leave_answer (Awake _) s = record { old = None; told = turns.silent }
  leave_answer (Asleep sleeper) s = leave_answer_by (waker_of sleeper.number s.sleepers.wakers) (gone sleeper.number s)
