-- A run that lives and hasn't ended can be polled by a call that is made alone, and that comes to its end.
use Rattle.std.specs.Prelude.{◌≡◌, ℕ, ◌<◌, true, List, length}
use Rattle.executor_model.specs.declared.call.By.TheVariants.{Outside}
use Rattle.executor_model.specs.declared.step.Step.{Step}
use Rattle.executor_model.specs.Emptiness.{IsAtRest}
use Rattle.executor_model.specs.Steps.{Machine, is_there}
use Rattle.executor_model.specs.World.{Ended, run_of}
use Rattle.executor_laws.specs.RunReach.{IsLonePoll, Keeps}

-- each party can poll it so, by any outside waker, while its own future isn't ready, whatever else happens in that
abbrev pub KeepersCanBePolled : Machine → Type 0
KeepersCanBePolled s = IsAtRest s → (r f : ℕ) → Keeps r f s.world.trace → (p x : ℕ) → p < length s.parties →
    (steps : List Step) × (new : Machine) × IsLonePoll p r (Outside x) steps s new

-- and so it is with each run that lives and hasn't ended, whether it keeps a future or not
abbrev pub RunsCanBePolled : Machine → Type 0
RunsCanBePolled s = IsAtRest s → (r : ℕ) → is_there (run_of s.world r) ≡ true → ¬ ((run_of s.world r).stage ≡ Ended) →
    (p x : ℕ) → p < length s.parties → (steps : List Step) × (new : Machine) × IsLonePoll p r (Outside x) steps s new
