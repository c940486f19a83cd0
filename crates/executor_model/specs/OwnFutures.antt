-- A wake or a copy that a waker is asked for is one of that waker's own future: by its waker in a poll, or by a kept one.
use Rattle.std.specs.Prelude.{◌≡◌, ◌≢◌, ◌⊎◌, ℕ, Option, Some, None, List, [], ◌∷◌, ◌++◌}
use Rattle.executor_model.specs.declared.call.Call.{Call}
use Rattle.executor_model.specs.declared.call.Call.TheVariants.{Copy, Keep, Wake, WakeByRef, WakeSelf}
use Rattle.executor_model.specs.declared.call.Reply.TheVariants.{Made, NoMemory}
use Rattle.executor_model.specs.declared.event.Event.TheVariants.{CallEnded, Woken}
use Rattle.executor_model.specs.declared.op.Waker.{Waker}
use Rattle.executor_model.specs.declared.step.Hint.{Hint}
use Rattle.executor_model.specs.declared.step.Step.{Step}
use Rattle.executor_model.specs.declared.step.Step.TheVariants.{Begin, Go}
use Rattle.executor_model.specs.CallsMean.{MayBeOver}
use Rattle.executor_model.specs.Steps.{Machine, future_of, kept, mine, party_of, refusal, run, stack, step, stepped}
use Rattle.executor_model.specs.Steps.{top}
use Rattle.executor_model.specs.Trace.{Trace}
use Rattle.executor_model.specs.World.{World}

-- the future whose waker a call wakes by, where its party stands in the poll that this waker is of; and one whose waker it copies
abbrev pub wakes_by : World → Option Waker → Call → Option ℕ
wakes_by w here WakeSelf = future_of here
wakes_by w here (Wake k) = kept w k
wakes_by w here (WakeByRef k) = kept w k
wakes_by w here _ = None

abbrev pub copies_of : World → Option Waker → Call → Option ℕ
copies_of w here Keep = future_of here
copies_of w here (Copy k) = kept w k
copies_of w here _ = None

-- none of these steps is the party's
abbrev pub AllByOthers : ℕ → List Step → Type 0
AllByOthers p [] = Unit {0}
AllByOthers p (t ∷ ts) = (p ≢ party_of t) × AllByOthers p ts

-- the call begins, and others take these steps; then its party goes on
abbrev pub begun_then : Machine → ℕ → Call → List Step → Machine
begun_then s p c steps = run steps (stepped s (step s (Begin p c)))

abbrev pub going_on : Machine → ℕ → Hint → Machine
going_on s p h = stepped s (step s (Go p h))

-- the step wakes future f first, unless that one was over before it
abbrev pub WakesFirst : ℕ → ℕ → Machine → Machine → Type 0
WakesFirst p f s now =
    ((more : Trace) × (now.world.trace ≡ s.world.trace ++ Woken p f ∷ more)) ⊎ MayBeOver f s.world.trace

-- the step ends the call: a waker of future f is kept, behind those before; or memory is wanted, and none is
pub data KeepsOne (p f : ℕ) (s now : Machine) : Type 0 where
  keeps : now.world.wakers ≡ s.world.wakers ++ Some f ∷ [] → now.world.trace ≡ s.world.trace ++ CallEnded p Made ∷ [] →
      KeepsOne p f s now
  wants : now.world.wakers ≡ s.world.wakers → now.world.trace ≡ s.world.trace ++ CallEnded p NoMemory ∷ [] →
      KeepsOne p f s now

-- whatever others do between its beginning and its party's next step, that step wakes, or keeps a waker of, its own future
pub record ActsOnItsFuture (s : Machine) : Type 0 where
  pub wakes : (p : ℕ) (c : Call) (f : ℕ) → refusal s (Begin p c) ≡ None →
      wakes_by s.world (mine (top (stack s p))) c ≡ Some f → (steps : List Step) → AllByOthers p steps → (h : Hint) →
      WakesFirst p f (begun_then s p c steps) (going_on (begun_then s p c steps) p h)
  pub copies : (p : ℕ) (c : Call) (f : ℕ) → refusal s (Begin p c) ≡ None →
      copies_of s.world (mine (top (stack s p))) c ≡ Some f → (steps : List Step) → AllByOthers p steps → (h : Hint) →
      KeepsOne p f (begun_then s p c steps) (going_on (begun_then s p c steps) p h)
