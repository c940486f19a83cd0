-- How one falls asleep among the sleepers, wakes up, and leaves them, as the model has it.
use Rattle.std.specs.Prelude.{ℕ, nat_lt, Bool, true, false, List, [], ◌∷◌, length, slice_set, Option, Some, None, is_none}
use Rattle.executor_parts.specs.Sleepers.{Sleepers, flag_of, put_to_sleep, next_number, listed}
use Rattle.executor_parts.specs.Sleepers.{woken_up, position_of, waker_at, waker_of}
use Rattle.executor_model.specs.declared.op.Sleeping.{Sleeping}
use Rattle.executor_model.specs.ActsOfSleepers.{given_back}
use Rattle.executor_model.specs.World.{Ticker, Awake, Asleep, Left}
use Rattle.executor_core.specs.declared.ticks.flagged_sleepers.FellAsleep.{FellAsleep}
use Rattle.executor_core.specs.declared.ticks.flagged_sleepers.FellAsleep.TheVariants.{Searches, Rests, Nowhere}
use Rattle.executor_core.specs.Ticks.{Flagged}

-- a section on the sleepers ends, and the flag is stored; what was made ahead was given back
abbrev pub stored : Sleepers Sleeping → Flagged
stored s = record { sleepers = s; notified = flag_of s; has_room = false }

-- the sleepers changed, and the flag is as it was
abbrev pub quiet : Sleepers Sleeping → Flagged → Flagged
quiet s b = record { sleepers = s; notified = b.notified; has_room = false }

-- the sleepers after one fell asleep, where it is then, and how it fell asleep
pub record FallenAsleep : Type 0 where
  pub flagged : Flagged
  pub place : Ticker
  pub fell_asleep : FellAsleep

abbrev pub fallen_asleep : Flagged → Ticker → FellAsleep → FallenAsleep
fallen_asleep flagged place fell_asleep = record { flagged = flagged; place = place; fell_asleep = fell_asleep }

abbrev pub anew : Bool → Sleeping → Flagged → FallenAsleep
anew true x b = fallen_asleep (stored (put_to_sleep x b.sleepers)) (Asleep (next_number b.sleepers)) Searches
anew false x b = fallen_asleep (quiet b.sleepers b) Awake Nowhere

-- it had been told meanwhile
abbrev pub told_by : Bool → ℕ → Sleeping → Flagged → FallenAsleep
told_by true n x b = fallen_asleep (stored (listed n x b.sleepers)) (Asleep n) Searches
told_by false n x b = fallen_asleep (quiet b.sleepers b) (Asleep n) Nowhere

abbrev pub again : Option ℕ → ℕ → Sleeping → Flagged → FallenAsleep
again (Some at) n x b =
    fallen_asleep
    (quiet (record b.sleepers { wakers = slice_set b.sleepers.wakers at (n, x) }) b)
    (Asleep n)
    (Rests (waker_at (Some at) b.sleepers.wakers))
again None n x b = told_by (nat_lt (length b.sleepers.wakers) b.sleepers.count) n x b

-- one that is at this place falls asleep with x
abbrev pub fall_asleep : Ticker → Sleeping → Flagged → FallenAsleep
fall_asleep Awake x b = anew (nat_lt b.sleepers.count b.sleepers.rooms) x b
fall_asleep (Asleep n) x b = again (position_of n b.sleepers.wakers) n x b
fall_asleep Left x b = fallen_asleep (quiet b.sleepers b) Left Nowhere

-- what one sleeps with, that was not told
abbrev pub sleeps_with : Ticker → Sleepers Sleeping → Option Sleeping
sleeps_with Awake s = None
sleeps_with (Asleep n) s = waker_of n s.wakers
sleeps_with Left s = None

-- the sleepers after one woke up, where it slept
abbrev pub woke_up : Ticker → Flagged → Flagged
woke_up Awake b = quiet b.sleepers b
woke_up (Asleep n) b = stored (woken_up n b.sleepers)
woke_up Left b = quiet b.sleepers b

-- where it is then
abbrev pub awake_now : Ticker → Ticker
awake_now Awake = Awake
awake_now (Asleep n) = Awake
awake_now Left = Left

-- it sleeps, and was told
abbrev pub was_told : Ticker → Sleepers Sleeping → Bool
was_told Awake s = false
was_told (Asleep n) s = is_none (waker_of n s.wakers)
was_told Left s = false

-- the sleepers after one left: one that was awake gave its room back, and one that slept has still to do so
abbrev pub left : Ticker → Flagged → Flagged
left Awake b = quiet (given_back b.sleepers) b
left (Asleep n) b = stored (woken_up n b.sleepers)
left Left b = quiet b.sleepers b

-- the sleepers after one left and gave its room back
abbrev pub gone : Ticker → Flagged → Flagged
gone Awake b = quiet (given_back b.sleepers) b
gone (Asleep n) b = stored (given_back (woken_up n b.sleepers))
gone Left b = quiet b.sleepers b

-- the sleepers after each of these is gone, the last first
abbrev pub all_gone : List Ticker → Flagged → Flagged
all_gone [] b = b
all_gone (x ∷ xs) b = gone x (all_gone xs b)
