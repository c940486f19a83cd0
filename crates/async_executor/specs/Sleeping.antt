-- How a tick or run falls asleep among the sleepers, wakes up and leaves them, each in one section of their lock.
use Rattle.std.specs.Prelude.{◌≡◌, ℕ, ◌+◌, ◌<◌, ◌≤◌, Bool, true, false, Option, Some, None}
use Rattle.async_executor.specs.declared.sleeping.SleeperWaker.{SleeperWaker}
use Rattle.async_executor.specs.declared.ticker.FellAsleep.{FellAsleep}
use Rattle.async_executor.specs.declared.ticker.FellAsleep.TheVariants.{Anew, Already, Nowhere}
use Rattle.async_executor.specs.declared.ticker.Laid.{Laid}
use Rattle.async_executor.specs.declared.ticker.Laid.TheVariants as laid
use Rattle.async_executor.specs.declared.ticker.Slept.{Slept}
use Rattle.async_executor.specs.declared.ticker.Slept.TheVariants as slept
use Rattle.async_executor.specs.declared.ticker.WokenUp.{WokenUp}
use Rattle.async_executor.specs.Foreign.{value_of}
use Rattle.async_executor.specs.declared.ticker.Ticker.{Ticker}
use Rattle.async_executor.specs.declared.ticker.Ticker.TheVariants.{Awake, Asleep, Left}
use Rattle.executor_parts.specs.Sleepers.{Sleepers, flag_of, next_number, put_to_sleep, IsAgain, waker_of, woken_up}
use Rattle.async_task.specs.declared.cell.Identity.{Identity}
use Rattle.call_steps.specs.declared.names.Waker.{Waker}
use Rattle.executor_parts.specs.declared.sleepers.Again.TheVariants.{Replaced, Notified, Unknown}

-- whether it is among the sleepers
abbrev pub is_asleep : Ticker → Bool
is_asleep (Awake room) = false
is_asleep (Asleep s w) = true
is_asleep Left = false

-- the name of the waker with which it sleeps
abbrev pub sleeps_with : Ticker → Option (Waker Identity)
sleeps_with (Awake room) = None
sleeps_with (Asleep s w) = Some w.value
sleeps_with Left = None

-- who searches again, or is pending and wasn't called, sleeps with the waker that its poll was given, of this name
abbrev pub SleepsBy : Waker Identity → Ticker → Slept → Type 0
SleepsBy name ticker slept.Anew = sleeps_with ticker ≡ Some name
SleepsBy name ticker slept.Still = sleeps_with ticker ≡ Some name
SleepsBy name ticker slept.Called = Unit {0}
SleepsBy name ticker slept.NoMemory = Unit {0}

module _ {W : Type 0} where
  -- how one that slept sleeps now
  abbrev pub SleepsAgain : ℕ → SleeperWaker W → Sleepers (SleeperWaker W) → Sleepers (SleeperWaker W) → FellAsleep W → Type 0
  SleepsAgain number waker old new (Anew flag) = IsAgain number waker old new (Notified flag)
  SleepsAgain number waker old new (Already was) = IsAgain number waker old new (Replaced was.value)
  SleepsAgain number waker old new (Nowhere back) = IsAgain number waker old new (Unknown back.value)

  -- one that is awake sleeps under a new number, with this waker, and one that slept sleeps under its own
  abbrev pub FallsAsleep :
      Ticker → SleeperWaker W → Sleepers (SleeperWaker W) → Sleepers (SleeperWaker W) → Ticker → FellAsleep W → Type 0
  FallsAsleep (Awake room) waker old new (Asleep s w) (Anew flag) =
      (s.number ≡ next_number old) × (new ≡ put_to_sleep waker old) × (flag ≡ flag_of new)
  FallsAsleep (Awake room) waker old new (Awake _) (Nowhere back) = (back.value ≡ waker) × (new ≡ old) × (old.rooms ≤ old.count)
  FallsAsleep (Asleep s v) waker old new (Asleep t w) fell_asleep = (t ≡ s) × SleepsAgain s.number waker old new fell_asleep
  FallsAsleep Left waker old new Left (Nowhere back) = (back.value ≡ waker) × (new ≡ old)
  FallsAsleep _ _ _ _ _ _ = ⊥

  -- what the flag becomes is what the list says
  abbrev pub SaysFellAsleep : Sleepers (SleeperWaker W) → FellAsleep W → Type 0
  SaysFellAsleep new (Anew flag) = flag ≡ flag_of new
  SaysFellAsleep new (Already was) = Unit {0}
  SaysFellAsleep new (Nowhere back) = Unit {0}

  -- one that slept is awake, and its number is free; its waker, if it had one, comes out
  abbrev pub WakesUp : Ticker → Sleepers (SleeperWaker W) → Sleepers (SleeperWaker W) → Ticker → Option (WokenUp W) → Type 0
  WakesUp (Asleep s w) old new (Awake _) (Some r) =
      (value_of r.waker ≡ waker_of s.number old.wakers) × (new ≡ woken_up s.number old) × (r.notified ≡ flag_of new)
  WakesUp (Awake _) old new (Awake _) None = new ≡ old
  WakesUp Left old new Left None = new ≡ old
  WakesUp _ _ _ _ _ = ⊥

  -- room for one was given back, where nobody sleeps in it
  abbrev pub GivesBack : Sleepers (SleeperWaker W) → Sleepers (SleeperWaker W) → Type 0
  GivesBack old new = (new ≡ record old { rooms = new.rooms })
      × (old.count < old.rooms → new.rooms + 1 ≡ old.rooms) × (old.rooms ≤ old.count → new.rooms ≡ old.rooms)

  -- one that slept wakes up, and had been notified where it has no waker left; the room stays, until it is given back
  abbrev pub Leaves : ℕ → Sleepers (SleeperWaker W) → Sleepers (SleeperWaker W) → WokenUp W → Type 0
  Leaves number old new r =
      (value_of r.waker ≡ waker_of number old.wakers) × (new ≡ woken_up number old) × (r.notified ≡ flag_of new)

  -- where it can't sleep, its waker comes back
  abbrev pub ComesBack : SleeperWaker W → FellAsleep W → Type 0
  ComesBack waker (Anew flag) = Unit {0}
  ComesBack waker (Already was) = Unit {0}
  ComesBack waker (Nowhere back) = back.value ≡ waker

  -- the same once the flag is stored
  abbrev pub laid_as : FellAsleep W → Laid W
  laid_as (Anew flag) = laid.Anew
  laid_as (Already was) = laid.Already was
  laid_as (Nowhere back) = laid.Nowhere back

  -- one that fell asleep, or slept there already, sleeps with the waker of this name
  abbrev pub Lies : Waker Identity → Ticker → Laid W → Type 0
  Lies name ticker laid.Anew = sleeps_with ticker ≡ Some name
  Lies name ticker (laid.Already was) = sleeps_with ticker ≡ Some name
  Lies name ticker (laid.Nowhere back) = Unit {0}

  abbrev pub LaidBack : SleeperWaker W → Laid W → Type 0
  LaidBack waker laid.Anew = Unit {0}
  LaidBack waker (laid.Already was) = Unit {0}
  LaidBack waker (laid.Nowhere back) = back.value ≡ waker
