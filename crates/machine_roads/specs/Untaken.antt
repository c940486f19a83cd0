-- Calls inside of the drop of an output that nobody can take, and in drops of outputs inside of that which go with their handles. There the
-- machine's task still has its run's reference and who awaits it: both stand alike but for these, and for those handles.
use Rattle.std.specs.Prelude.{◌≡◌, ℕ, ◌≤◌, ◌==◌, Bool, true, false, List, ◌∷◌, ◌++◌, length, Option, None}
use Rattle.executor_model.specs.declared.call.Call.{Call}
use Rattle.executor_model.specs.declared.call.Call.TheVariants as call
use Rattle.executor_model.specs.declared.op.Op.{Op}
use Rattle.executor_model.specs.declared.op.Op.TheVariants as op
use Rattle.executor_model.specs.declared.op.UserOp.TheVariants as user_op
use Rattle.executor_model.specs.declared.op.Waker.{Waker}
use Rattle.executor_model.specs.declared.step.Hint.{Hint}
use Rattle.executor_model.specs.World.{World}
use Rattle.plain_scheduler.specs.State.{Choice, Lose, Plain, Refusal}
use Rattle.plain_scheduler.specs.Calls as plain
use Rattle.plain_scheduler.specs.Calls.{does, Ends}
use Rattle.machine_roads.specs.View.{Output, wakes}
use Rattle.machine_roads.specs.Alone.{alone, is_resting, Has, HasAllOf}
use Rattle.machine_roads.specs.Alike.{begins, upon}
use Rattle.machine_roads.specs.Closing.{called, loses}
use Rattle.machine_roads.specs.Dropped.{IsEndingBy, without_run}
use Rattle.machine_roads.specs.InLoss.{AreLosing, IsCallInLoss}
use Rattle.machine_roads.specs.Losing.{left_of, lost}

-- the output of this task, which nobody can take, is being dropped, and inside of that, one inside another, outputs that go with their
-- handles
abbrev pub StandsUntaken : World → ℕ → Option Waker → List ℕ → Plain Output Waker → Type 0
StandsUntaken w f awaiter gs q = IsEndingBy (λ v. AreLosing v gs q) w f awaiter

-- what is spoken of is there without the run's reference, too
abbrev pub HasBeside : ℕ → World → Op → Type 0
HasBeside f w o = Has (without_run f w) o

abbrev pub polls : ℕ → Call → Bool
polls f (call.PollHandle g b) = f == g
polls f _ = false

-- a call of a waker, or of a handle that isn't among those that go, and no poll of that task's
pub record IsCallBeside (f : ℕ) (gs : List ℕ) (w : World) (c : Call) (x : plain.Call Output Waker) : Type 0 where
  pub unpolled : polls f c ≡ false
  pub is : IsCallInLoss gs w c x

module _ (p f : ℕ) (awaiter : Option Waker) (gs : List ℕ) (below : List Op) (w : World) (q : Plain Output Waker) (d : Choice)
    (hints : List Hint) where
  -- it ends, and both stand so still
  abbrev pub CallsBeside : Type 0
  CallsBeside =
      (c : Call) (x : plain.Call Output Waker) → is_resting below ≡ true → StandsUntaken w f awaiter gs q → IsCallBeside f gs w c x
      → loses x q ≡ false → length q.lying ≤ d.tells → HasAllOf (HasBeside f) p hints (upon below (begins p None c w))
      → is_resting (called p hints below c w).next ≡ true
      → (r : Refusal) × ((called p hints below c w).next ≡ below)
      × StandsUntaken (called p hints below c w).world f awaiter gs (does wakes (record d { refusal = r }) x q)

  -- or it comes to the drop of another output
  abbrev pub LosesBeside : Type 0
  LosesBeside =
      (c : Call) (x : plain.Call Output Waker) → is_resting below ≡ true → StandsUntaken w f awaiter gs q → IsCallBeside f gs w c x
      → loses x q ≡ true → HasAllOf (HasBeside f) p hints (upon below (begins p None c w))
      → is_resting (called p hints below c w).next ≡ true
      → (g : ℕ) × ((called p hints below c w).next ≡ op.User (user_op.DropOutput g) ∷ (left_of g ++ below))
      × ((does wakes d x q).inside ≡ Lose None None ∷ q.inside)
      × StandsUntaken (called p hints below c w).world f awaiter (g ∷ gs) (does wakes d x q)

  -- from the end of which on it ends
  abbrev pub LossEndsBeside : Type 0
  LossEndsBeside =
      (g : ℕ) → is_resting below ≡ true → StandsUntaken w f awaiter (g ∷ gs) q
      → HasAllOf (HasBeside f) p hints (upon below (lost p g w))
      → is_resting (alone p hints (upon below (lost p g w))).next ≡ true
      → ((alone p hints (upon below (lost p g w))).next ≡ below)
      × StandsUntaken (alone p hints (upon below (lost p g w))).world f awaiter gs
      (does wakes d Ends (record q { inside = Lose None None ∷ q.inside }))

-- wherever a party stands so
abbrev pub InAnyUntaken
    : (ℕ → ℕ → Option Waker → List ℕ → List Op → World → Plain Output Waker → Choice → List Hint → Type 0) → Type 0
InAnyUntaken So =
    (p f : ℕ) (awaiter : Option Waker) (gs : List ℕ) (below : List Op) (w : World) (q : Plain Output Waker) (d : Choice)
    (hints : List Hint) → So p f awaiter gs below w q d hints
