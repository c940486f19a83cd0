-- A spawn is answered as the limit says: what had happened when it was answered that the executor is full, and that there
-- are never more undropped futures than the limit.
use Rattle.std.specs.Prelude.{◌≡◌, ◌⊎◌, ℕ, suc, ◌≤◌, true, false, List, [], ◌∷◌, ◌++◌, length}
use Rattle.std.specs.List.{list_any}
use Rattle.executor_model.specs.declared.call.Reply.TheVariants.{Full}
use Rattle.executor_model.specs.declared.event.Event.{Event}
use Rattle.executor_model.specs.declared.event.Event.TheVariants.{CallEnded}
use Rattle.executor_model.specs.Calls.{Begun, calls}
use Rattle.executor_model.specs.Sound.{times}
use Rattle.executor_model.specs.Steps.{Machine}
use Rattle.executor_model.specs.Trace.{Trace, has, is_accepted, is_dropped}

-- so many different futures, or more, are of this kind
pub record AreMany (n : ℕ) (Kind : ℕ → Type 0) : Type 0 where
  pub futures : List ℕ
  pub different : (f : ℕ) → times f futures ≤ 1
  pub kind : (f : ℕ) → 1 ≤ times f futures → Kind f
  pub many : n ≤ length futures

pub record WasUndropped (past : Trace) (f : ℕ) : Type 0 where
  pub accepted : has (is_accepted f) past ≡ true
  pub undropped : has (is_dropped f) past ≡ false

-- a call is in progress that itself began the drop of future f
abbrev pub IsBeingDropped : Trace → ℕ → Type 0
IsBeingDropped past f = (q : ℕ) × (list_any (λ (b : Begun). has (is_dropped f) b.own) (calls q past).begun ≡ true)

-- the future was accepted, and is undropped or was dropped by a call that hasn't ended
pub record TookPlace (past : Trace) (f : ℕ) : Type 0 where
  pub accepted : has (is_accepted f) past ≡ true
  pub remained : (has (is_dropped f) past ≡ false) ⊎ IsBeingDropped past f

-- where this is an answer that the executor is full, as many futures as the limit took a place, or more
abbrev pub FullAt : ℕ → Trace → Event → Type 0
FullAt limit past (CallEnded p Full) = AreMany limit (TookPlace past)
FullAt limit past _ = Unit {0}

abbrev pub FullFrom : ℕ → Trace → Trace → Type 0
FullFrom limit past [] = Unit {0}
FullFrom limit past (e ∷ es) = FullAt limit past e × FullFrom limit (past ++ e ∷ []) es

-- each such answer was given at such a moment; and at every moment no more futures are undropped than the limit, so that
-- no spawn takes one in where the limit is reached
pub record SpawnsAreLimited (s : Machine) : Type 0 where
  pub full : FullFrom s.world.limit [] s.world.trace
  pub few : ¬ AreMany (suc s.world.limit) (WasUndropped s.world.trace)
