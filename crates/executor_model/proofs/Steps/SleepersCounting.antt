-- For all laws.
-- What a tick that falls asleep, wakes up or leaves leads to, by the waker that it finds: for the laws of each future.
use Rattle.std.{proofs.Common.ℕ, proofs.Common.◌++◌, specs.Prelude.Option, specs.Prelude.slice_set, specs.Prelude.is_none}
use Rattle.executor_parts.specs.Sleepers.{woken_up}
use Rattle.executor_model.proofs.Types.{Sleeping, Waker, TickOrRun}
use Rattle.executor_model.specs.World.{World, Awake, Left, Done, done, put_place, put_sleepers}
use Rattle.executor_model.specs.ActsOfSleepers.{pend_as, sleeper_goes, tell_and_return}

-- telling

abbrev pub asleep : Waker → TickOrRun → ℕ → Sleeping
asleep a t k = record { waker = a; who = t; poll = k }

-- a tick

-- by the waker that is replaced
abbrev pub replaced : Option Sleeping → World → ℕ → ℕ → Sleeping → Done
replaced old w n at s = done
    (record w { sleepers = record w.sleepers { wakers = slice_set w.sleepers.wakers at (n, s) } })
    (sleeper_goes old ++ pend_as s.who)

-- by the waker that goes
abbrev pub gone_awake : Option Sleeping → World → ℕ → TickOrRun → Done
gone_awake old w n t = done (put_place (put_sleepers w (woken_up n w.sleepers)) t Awake) (sleeper_goes old)

abbrev pub gone_off : Option Sleeping → World → ℕ → TickOrRun → Done
gone_off old w n t = done (put_place (put_sleepers w (woken_up n w.sleepers)) t Left)
    (sleeper_goes old ++ tell_and_return (is_none old))
