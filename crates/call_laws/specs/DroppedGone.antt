-- What was dropped is gone, once no call in progress uses it: what the drop of a tick and that of a run have done.
use Rattle.std.specs.Prelude.{◌≡◌, ℕ, true, []}
use Rattle.executor_model.specs.SleepersAgree.{sleeps}
use Rattle.executor_model.specs.Steps.{Machine}
use Rattle.executor_model.specs.Trace.{has}
use Rattle.executor_model.specs.World.{Left, own_of, run_of, tick_of}
use Rattle.call_laws.specs.DropsTold.{drops_run, drops_tick}
use Rattle.call_laws.specs.InProgress.{InProgress, IsInMaking, names_run, names_tick}

-- the run doesn't sleep, and its own queue is empty
pub record IsAway (r : ℕ) (s : Machine) : Type 0 where
  pub awake : sleeps (run_of s.world r).place ≡ 0
  pub empty : own_of s.world r ≡ []

pub record DroppedIsGone (s : Machine) : Type 0 where
  pub tick : (t : ℕ) → has (drops_tick t) s.world.trace ≡ true → ¬ InProgress (λ b. names_tick t b.call) s.world.trace →
      tick_of s.world t ≡ Left
  -- from the beginning of its drop on a run doesn't live
  pub run : (r : ℕ) → has (drops_run r) s.world.trace ≡ true → (run_of s.world r).dropped ≡ true
  pub away : (r : ℕ) → has (drops_run r) s.world.trace ≡ true → ¬ IsInMaking r s →
      ¬ InProgress (λ b. names_run r b.call) s.world.trace → IsAway r s
