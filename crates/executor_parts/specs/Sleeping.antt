-- Sleepers after a list of steps: their lists, the flag beside them, and the numbers that somebody has.
use Rattle.std.specs.Prelude.{◌≡◌, ◌⊎◌, ℕ, ◌+◌, ◌-◌, ◌<◌, ◌≤◌, ◌==◌, Bool, true, false, List, [], ◌∷◌, length, slice_set, Option, Some}
use Rattle.std.specs.Prelude.{None}
use Rattle.executor_parts.specs.Order.{IsIn, IsApart, without}
use Rattle.executor_parts.specs.Sleepers.{Sleepers, position_of, flag_of, without_last, next_number, put_to_sleep, listed, woken_up}

-- the flag's exchange, or one section under the lock
pub data Step (W : Type 0) : Type 0 where
  ExchangeFlag : Step W
  HandOut : Step W
  FallAsleep : W → Step W
  FallAsleepAgain : ℕ → W → Step W
  -- or leave, which differs in its answer alone
  WakeUp : ℕ → Step W
  MakeRoom : Step W
  GiveBack : Step W

pub record AllSleepers (W : Type 0) : Type 0 where
  pub sleepers : Sleepers W
  pub flag : Bool
  -- the numbers that were given out, and whose owner hasn't woke up or left
  pub numbers : List ℕ
  -- how many have won the flag's exchange and haven't yet handed out
  pub tellers : ℕ

module _ {W : Type 0} where
  -- nobody sleeps, and so the flag is true
  abbrev pub awake : AllSleepers W
  awake = record { sleepers = record { count = 0; rooms = 0; wakers = []; free = [] }; flag = true; numbers = []; tellers = 0 }

  -- the section stored what the flag is to be
  abbrev pub stored : Sleepers W → List ℕ → ℕ → AllSleepers W
  stored sleepers numbers tellers = record { sleepers = sleepers; flag = flag_of sleepers; numbers = numbers; tellers = tellers }

  abbrev pub handed_by : Bool → AllSleepers W → AllSleepers W
  handed_by true s = record s { sleepers = without_last s.sleepers; tellers = s.tellers - 1 }
  handed_by false s = record s { tellers = s.tellers - 1 }

  abbrev pub exchanged_by : Bool → AllSleepers W → AllSleepers W
  exchanged_by true s = s
  exchanged_by false s = record s { flag = true; tellers = s.tellers + 1 }

  abbrev pub again_by : Option ℕ → ℕ → W → AllSleepers W → AllSleepers W
  again_by (Some at) number waker s = record s { sleepers = record s.sleepers { wakers = slice_set s.sleepers.wakers at (number, waker) } }
  again_by None number waker s = stored (listed number waker s.sleepers) s.numbers s.tellers

  abbrev pub after : Step W → AllSleepers W → AllSleepers W
  after ExchangeFlag s = exchanged_by s.flag s
  after HandOut s = handed_by (length s.sleepers.wakers == s.sleepers.count) s
  after (FallAsleep waker) s = stored (put_to_sleep waker s.sleepers) (next_number s.sleepers ∷ s.numbers) s.tellers
  after (FallAsleepAgain number waker) s = again_by (position_of number s.sleepers.wakers) number waker s
  after (WakeUp number) s = stored (woken_up number s.sleepers) (without number s.numbers) s.tellers
  after MakeRoom s = record s { sleepers = record s.sleepers { rooms = s.sleepers.rooms + 1 } }
  after GiveBack s = record s { sleepers = record s.sleepers { rooms = s.sleepers.rooms - 1 } }

  -- who may take it: a teller hands out, who has room falls asleep or gives it back, and who has a number falls asleep again, wakes up or leaves
  abbrev pub MayTake : Step W → AllSleepers W → Type 0
  MayTake HandOut s = 1 ≤ s.tellers
  MayTake (FallAsleep waker) s = s.sleepers.count < s.sleepers.rooms
  MayTake (FallAsleepAgain number waker) s = IsIn number s.numbers
  MayTake (WakeUp number) s = IsIn number s.numbers
  MayTake GiveBack s = s.sleepers.count < s.sleepers.rooms
  MayTake _ s = Unit {0}

  abbrev pub run : List (Step W) → AllSleepers W → AllSleepers W
  run [] s = s
  run (t ∷ ts) s = run ts (after t s)

  abbrev pub MayRun : List (Step W) → AllSleepers W → Type 0
  MayRun [] s = Unit {0}
  MayRun (t ∷ ts) s = MayTake t s × MayRun ts (after t s)

  -- no two have one number, there are as many numbers as sleepers and no more wakers, and the flag is true only where nobody sleeps, a
  -- sleeper is notified, or somebody has still to hand out
  pub record Agree (s : AllSleepers W) : Type 0 where
    pub apart : IsApart s.numbers
    pub counted : length s.numbers ≡ s.sleepers.count
    pub listed : length s.sleepers.wakers ≤ s.sleepers.count
    pub within : s.sleepers.count ≤ s.sleepers.rooms
    pub told : s.flag ≡ true → (flag_of s.sleepers ≡ true) ⊎ (1 ≤ s.tellers)

  -- after these steps, where each was one that may be taken
  abbrev pub SleepersAgree : List (Step W) → Type 0
  SleepersAgree steps = MayRun steps awake → Agree (run steps awake)
