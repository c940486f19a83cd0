-- What a party finds that comes to a barrier.
use Rattle.std.specs.Prelude.{◌≡◌, ℕ, ◌+◌, ◌%◌, ◌^◌, ◌≤◌, ◌<◌, [], length, Option, Ok, Err}
use Rattle.async_lock.specs.Rounds.{HasSat}
use Rattle.async_lock.specs.declared.round.Round.{Round}
use Rattle.async_lock.specs.declared.gathering.Came.{Came}
use Rattle.async_lock.specs.declared.gathering.Came.TheVariants.{Opens, Waits, NoMemory}

module _ {K : Type 0} where
  -- where as many wait as have to, it is the last: all of them come out, and the next round begins. Else it waits, the last of all
  abbrev pub HasCome : Option K → ℕ → Round K → Round K → Came K → Type 0
  HasCome waker others old new (Opens ended back) = (others ≤ length old.waiters.waiting) × (ended.waiters ≡ old.waiters)
      × (new.waiters.waiting ≡ []) × (new.number ≡ (old.number + 1) % 2 ^ 64) × (back ≡ waker)
  HasCome waker others old new (Waits seat) = (length old.waiters.waiting < others) × (new.number ≡ old.number)
      × HasSat waker old.number old.waiters new.waiters (Ok seat)
  HasCome waker others old new (NoMemory back) = (length old.waiters.waiting < others) × (new.number ≡ old.number)
      × HasSat waker old.number old.waiters new.waiters (Err back)
