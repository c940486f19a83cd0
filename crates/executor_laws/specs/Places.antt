-- Where the Runnable of a due future stands.
use Rattle.std.specs.Prelude.{◌↔◌, ℕ, ◌≤◌}
use Rattle.executor_model.specs.Due.{IsDue}
use Rattle.executor_model.specs.Emptiness.{IsAtRest}
use Rattle.executor_model.specs.Keeper.{IsCommon, IsKeeper}
use Rattle.executor_model.specs.Sound.{times}
use Rattle.executor_model.specs.Steps.{Machine}
use Rattle.executor_model.specs.World.{own_of, queued_in}

-- where no call is in progress and the drop of the executor hasn't begun, a due future stands in one of the executor's queues
-- exactly where it is common, and in a run's own queue exactly where that run is its keeper
pub record StandsWithKeeper (s : Machine) : Type 0 where
  pub common : IsAtRest s → (f : ℕ) → IsDue f s.world.trace →
      (1 ≤ times f (queued_in s.world)) ↔ IsCommon f s.world.trace
  pub kept : IsAtRest s → (f r : ℕ) → IsDue f s.world.trace →
      (1 ≤ times f (own_of s.world r)) ↔ IsKeeper r f s.world.trace
