-- A waker that is kept stays one of its future, until it is used up, and each call of it wakes that future.
use Rattle.std.specs.Prelude.{◌≡◌, ◌⊎◌, ℕ, ◌==◌, Bool, true, false, Some, None, List}
use Rattle.executor_model.specs.declared.call.Call.{Call}
use Rattle.executor_model.specs.declared.call.Call.TheVariants as call
use Rattle.executor_model.specs.declared.step.Step.{Step}
use Rattle.executor_model.specs.Calls.{Each, Ended, calls}
use Rattle.executor_model.specs.CallsMean.{MayBeOver}
use Rattle.executor_model.specs.Steps.{Machine, kept, run}
use Rattle.executor_model.specs.Trace.{Trace, has, is_woken}

-- the call is a wake by the kept waker k
abbrev pub is_wake : ℕ → Call → Bool
is_wake k (call.Wake j) = k == j
is_wake k (call.WakeByRef j) = k == j
is_wake k _ = false

-- it woke future f, unless that was over before it ended
abbrev pub HasWokenIts : ℕ → Trace → Trace → Type 0
HasWokenIts f own past = (has (is_woken f) own ≡ true) ⊎ MayBeOver f past

abbrev pub WakesIts : ℕ → ℕ → Ended → Type 0
WakesIts k f e = is_wake k e.call ≡ true → HasWokenIts f e.own e.past

-- where waker k is one of future f, it is, or is used up, however the parties go on; and each wake by it that has ended
-- by then, before or after, woke f
pub record WakersWakeTheirOwn (s : Machine) : Type 0 where
  pub stays : (k f : ℕ) → kept s.world k ≡ Some f → (steps : List Step) →
      (kept (run steps s).world k ≡ Some f) ⊎ (kept (run steps s).world k ≡ None)
  pub wakes : (k f : ℕ) → kept s.world k ≡ Some f → (steps : List Step) (p : ℕ) →
      Each (WakesIts k f) (calls p (run steps s).world.trace).ended
