-- How a whole call is answered that a party makes alone.
use Rattle.std.specs.Prelude.{◌≡◌, ◌⊎◌, ◌↔◌, ℕ, List, [], ◌∷◌, ◌++◌}
use Rattle.executor_model.specs.declared.call.Call.{Call}
use Rattle.executor_model.specs.declared.call.Call.TheVariants.{TryTick, IsEmpty}
use Rattle.executor_model.specs.declared.call.Reply.{Reply}
use Rattle.executor_model.specs.declared.call.Reply.TheVariants.{Yes, No}
use Rattle.executor_model.specs.declared.event.Event.TheVariants.{CallBegun, CallEnded}
use Rattle.executor_model.specs.declared.step.Step.{Step}
use Rattle.executor_model.specs.Emptiness.{AllDropped, IsAtRest}
use Rattle.executor_model.specs.Keeper.{IsCommon}
use Rattle.executor_model.specs.Steps.{Machine}
use Rattle.executor_model.specs.Trace.{Trace}
use Rattle.executor_laws.specs.LoneEnds.{IsLoneCall}

-- the call of party p is answered so, behind what it did
abbrev pub IsAnswered : ℕ → Call → Reply → Machine → Machine → Type 0
IsAnswered p c reply s new =
    (meanwhile : Trace) × (new.world.trace ≡ s.world.trace ++ CallBegun p c ∷ (meanwhile ++ CallEnded p reply ∷ []))

-- a tick is answered yes or no, and no exactly where no future is common
pub record IsLoneTickExact (s : Machine) : Type 0 where
  pub answered : IsAtRest s → (p : ℕ) (steps : List Step) (new : Machine) → IsLoneCall p TryTick steps s new →
      IsAnswered p TryTick Yes s new ⊎ IsAnswered p TryTick No s new
  pub no : IsAtRest s → (p : ℕ) (steps : List Step) (new : Machine) → IsLoneCall p TryTick steps s new →
      IsAnswered p TryTick No s new ↔ ((f : ℕ) → ¬ IsCommon f s.world.trace)

-- who asks whether the executor is empty is answered yes or no, and yes exactly where each accepted future is dropped
pub record IsLoneEmptinessExact (s : Machine) : Type 0 where
  pub answered : IsAtRest s → (p : ℕ) (steps : List Step) (new : Machine) → IsLoneCall p IsEmpty steps s new →
      IsAnswered p IsEmpty Yes s new ⊎ IsAnswered p IsEmpty No s new
  pub yes : IsAtRest s → (p : ℕ) (steps : List Step) (new : Machine) → IsLoneCall p IsEmpty steps s new →
      IsAnswered p IsEmpty Yes s new ↔ AllDropped s.world.trace
