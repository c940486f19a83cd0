-- A poll of a run that is made alone finds a future in whichever queue it stands.
use Rattle.std.specs.Prelude.{◌≡◌, ℕ, true, List}
use Rattle.executor_model.specs.declared.call.By.{By}
use Rattle.executor_model.specs.declared.step.Step.{Step}
use Rattle.executor_model.specs.Due.{IsDue}
use Rattle.executor_model.specs.Emptiness.{IsAtRest}
use Rattle.executor_model.specs.Steps.{Machine}
use Rattle.executor_model.specs.Trace.{has}
use Rattle.executor_laws.specs.Reach.{since, takes}
use Rattle.executor_laws.specs.RunReach.{IsLonePoll}

-- the poll or the drop of a future that was due has begun
pub record TakesOneDue (s new : Machine) : Type 0 where
  pub future : ℕ
  pub due : IsDue future s.world.trace
  pub taken : has (takes future) (since s new) ≡ true

-- while some future is due, each lone poll of a run takes one that is, also where it is another run that keeps it: so a
-- poll that takes none leaves none that another run could give it
abbrev pub FindsDue : Machine → Type 0
FindsDue s = IsAtRest s → (f : ℕ) → IsDue f s.world.trace → (p r : ℕ) (b : By) (steps : List Step) (new : Machine) →
    IsLonePoll p r b steps s new → TakesOneDue s new
