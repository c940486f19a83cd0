-- The turns of searches, and what a try of a tick takes that is made alone.
use Rattle.std.specs.Prelude.{◌≡◌, ℕ, zero, suc, ◌+◌, ◌≤◌, true, Some, List, [], ◌∷◌, length}
use Rattle.std.specs.Prelude.{All, drop, slice_get, take}
use Rattle.executor_parts.specs.declared.mark.Mark.{Mark}
use Rattle.executor_parts.specs.declared.mark.Mark.TheVariants.{Plain, Urgent}
use Rattle.executor_model.specs.declared.call.Call.TheVariants.{Spawn}
use Rattle.executor_model.specs.declared.event.Event.TheVariants.{Accepted, Looked}
use Rattle.executor_model.specs.declared.step.Step.{Step}
use Rattle.executor_model.specs.Calls.{Begun, calls}
use Rattle.executor_model.specs.Emptiness.{IsAtRest}
use Rattle.executor_model.specs.Keeper.{IsCommon}
use Rattle.executor_model.specs.Steps.{Machine}
use Rattle.executor_model.specs.Trace.{Trace, has}
use Rattle.executor_model.specs.World.{mark_of, queue_of}
use Rattle.executor_laws.specs.Reach.{IsLoneTick, names, since, takes}

-- the marks that the turns named, in order
abbrev pub looked : Trace → List Mark
looked [] = []
looked (Looked p m ∷ es) = m ∷ looked es
looked (e ∷ es) = looked es

abbrev pub plains : List Mark → ℕ
plains [] = zero
plains (Plain ∷ ms) = suc (plains ms)
plains (Urgent ∷ ms) = plains ms

-- of eight turns in a row exactly one names the plain queue
abbrev pub OneOfEightIsPlain : Machine → Type 0
OneOfEightIsPlain s = (before : ℕ) → before + 8 ≤ length (looked s.world.trace) →
    plains (take 8 (drop before (looked s.world.trace))) ≡ 1

-- a future has the mark with which it was spawned: that of the innermost call of the party that took it in
abbrev pub IsMarkedAsSpawned : Machine → Type 0
IsMarkedAsSpawned s = (p f place : ℕ) → slice_get s.world.trace place ≡ Some (Accepted p f) →
    (m : Mark) (begun : Begun) (outer : List Begun) →
    (calls p (take place s.world.trace)).begun ≡ begun ∷ outer → begun.call ≡ Spawn m → mark_of s.world f ≡ m

-- each queue has futures of its mark alone
abbrev pub AreQueuedByMark : Machine → Type 0
AreQueuedByMark s = (m : Mark) → All (λ f. mark_of s.world f ≡ m) (queue_of s.world m).items

-- it takes the first future of the queue of this mark, which was common
pub record TakesFirst (m : Mark) (s new : Machine) : Type 0 where
  pub future : ℕ
  pub rest : List ℕ
  pub first : (queue_of s.world m).items ≡ future ∷ rest
  pub marked : mark_of s.world future ≡ m
  pub common : IsCommon future s.world.trace
  pub taken : has (takes future) (since s new) ≡ true

-- a try of a tick that is made alone, and whose turn names the mark of some common future, takes the first of that mark
abbrev pub TakesByItsTurn : Machine → Type 0
TakesByItsTurn s = IsAtRest s → (p : ℕ) (steps : List Step) (new : Machine) → IsLoneTick p steps s new →
    (m : Mark) → has (names m) (since s new) ≡ true →
    (f : ℕ) → IsCommon f s.world.trace → mark_of s.world f ≡ m → TakesFirst m s new
