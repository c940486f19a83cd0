-- A call that a party makes alone ends, whatever user code answers in it.
use Rattle.std.specs.Prelude.{◌≡◌, ◌⊎◌, ◌==◌, ℕ, ◌≤◌, Bool, true, false, ◌&&◌, None, Ok, List, [], ◌∷◌, length}
use Rattle.executor_model.specs.declared.call.Call.{Call}
use Rattle.executor_model.specs.declared.step.Step.{Step}
use Rattle.executor_model.specs.declared.step.Step.TheVariants.{Begin, Go, Answer}
use Rattle.executor_model.specs.Quiet.{IsQuiet}
use Rattle.executor_model.specs.Executions.{run_all}
use Rattle.executor_model.specs.Steps.{Machine, after, refusal}
use Rattle.executor_laws.specs.Remaining.{remaining}

-- a step by which party p goes on with what it has begun
abbrev pub is_onward_of : ℕ → Step → Bool
is_onward_of p (Begin q c) = false
is_onward_of p (Go q h) = p == q
is_onward_of p (Answer q e) = p == q

abbrev pub are_onward_of : ℕ → List Step → Bool
are_onward_of p [] = true
are_onward_of p (t ∷ ts) = is_onward_of p t && are_onward_of p ts

-- a whole call of party p: it begins, goes on by these steps and has ended. No other party takes a step,
-- and the user code in it answers as it likes, but begins no call
pub record IsLoneCall (p : ℕ) (c : Call) (steps : List Step) (s new : Machine) : Type 0 where
  pub made : run_all (Begin p c ∷ steps) s ≡ Ok new
  pub alone : are_onward_of p steps ≡ true
  pub ended : IsQuiet new.world.trace

-- the call has begun, and its party has gone on with it by these steps; no other party takes one,
-- and user code begins no call
pub record GoesAlone (p : ℕ) (c : Call) (steps : List Step) (s now : Machine) : Type 0 where
  pub made : run_all (Begin p c ∷ steps) s ≡ Ok now
  pub alone : are_onward_of p steps ≡ true

-- where no call is in progress, each call that isn't refused can be made alone. However it goes on, it takes no more
-- steps than a number that the machine determines as it begins, and at each moment it has ended or can go on
pub record LoneCallsEnd (s : Machine) : Type 0 where
  pub can : IsQuiet s.world.trace → (p : ℕ) (c : Call) → refusal s (Begin p c) ≡ None →
      (steps : List Step) × (new : Machine) × IsLoneCall p c steps s new
  pub within : IsQuiet s.world.trace → (p : ℕ) (c : Call) (steps : List Step) (now : Machine) →
      GoesAlone p c steps s now →
      length steps ≤ remaining (after s (Begin p c))
  pub onward : IsQuiet s.world.trace → (p : ℕ) (c : Call) (steps : List Step) (now : Machine) →
      GoesAlone p c steps s now →
      IsQuiet now.world.trace ⊎ ((t : Step) × (is_onward_of p t ≡ true) × (refusal now t ≡ None))
