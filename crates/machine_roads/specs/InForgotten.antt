-- Calls inside of the drop of a future that nobody could wake or ask for, and in drops of outputs inside of that which go with their
-- handles. There the machine's task still has who awaits it: both stand alike but for this, and for those handles.
use Rattle.std.specs.Prelude.{◌≡◌, ℕ, ◌≤◌, ◌==◌, Bool, true, false, List, ◌∷◌, ◌++◌, length, None}
use Rattle.executor_model.specs.declared.call.Call.{Call}
use Rattle.executor_model.specs.declared.op.Op.{Op}
use Rattle.executor_model.specs.declared.op.Op.TheVariants as op
use Rattle.executor_model.specs.declared.op.UserOp.TheVariants as user_op
use Rattle.executor_model.specs.declared.op.Waker.{Waker}
use Rattle.executor_model.specs.declared.step.Hint.{Hint}
use Rattle.executor_model.specs.World.{World}
use Rattle.plain_scheduler.specs.State.{Choice, Lose, Plain, Refusal}
use Rattle.plain_scheduler.specs.Calls as plain
use Rattle.plain_scheduler.specs.Calls.{does, Ends}
use Rattle.machine_roads.specs.View.{Output, wakes}
use Rattle.machine_roads.specs.Alone.{alone, is_resting, HasAll}
use Rattle.machine_roads.specs.Alike.{begins, upon}
use Rattle.machine_roads.specs.Closing.{called, loses}
use Rattle.machine_roads.specs.Forgotten.{IsForgottenBy}
use Rattle.machine_roads.specs.InLoss.{AreLosing, IsCallInLoss}
use Rattle.machine_roads.specs.Losing.{left_of, lost}

-- this future, which nobody could wake, is being dropped, and inside of that, one inside another, outputs that go with their handles
abbrev pub StandsForgotten : World → ℕ → List ℕ → Plain Output Waker → Type 0
StandsForgotten w f gs q = IsForgottenBy (λ v r. AreLosing v gs r) w f q

-- a call of a waker or of the handle of this one
abbrev pub is_of : ℕ → plain.Call Output Waker → Bool
is_of f (plain.Use g) = f == g
is_of f (plain.Wake g) = f == g
is_of f (plain.Copy g) = f == g
is_of f (plain.Release g) = f == g
is_of f (plain.PollHandle g a) = f == g
is_of f (plain.Cancel g) = f == g
is_of f (plain.Detach g) = f == g
is_of f (plain.DropHandle g) = f == g
is_of f _ = false

-- a call of another's waker, or of a handle of another that isn't among those that go
pub record IsCallInForgotten (f : ℕ) (gs : List ℕ) (w : World) (c : Call) (x : plain.Call Output Waker) : Type 0 where
  pub apart : is_of f x ≡ false
  pub is : IsCallInLoss gs w c x

module _ (p f : ℕ) (gs : List ℕ) (below : List Op) (w : World) (q : Plain Output Waker) (d : Choice) (hints : List Hint) where
  -- it ends, and both stand so still
  abbrev pub CallsInForgotten : Type 0
  CallsInForgotten =
      (c : Call) (x : plain.Call Output Waker) → is_resting below ≡ true → StandsForgotten w f gs q → IsCallInForgotten f gs w c x
      → loses x q ≡ false → length q.lying ≤ d.tells → HasAll p hints (upon below (begins p None c w))
      → is_resting (called p hints below c w).next ≡ true
      → (r : Refusal) × ((called p hints below c w).next ≡ below)
      × StandsForgotten (called p hints below c w).world f gs (does wakes (record d { refusal = r }) x q)

  -- or it comes to the drop of another output
  abbrev pub LosesInForgotten : Type 0
  LosesInForgotten =
      (c : Call) (x : plain.Call Output Waker) → is_resting below ≡ true → StandsForgotten w f gs q → IsCallInForgotten f gs w c x
      → loses x q ≡ true → HasAll p hints (upon below (begins p None c w))
      → is_resting (called p hints below c w).next ≡ true
      → (g : ℕ) × ((called p hints below c w).next ≡ op.User (user_op.DropOutput g) ∷ (left_of g ++ below))
      × ((does wakes d x q).inside ≡ Lose None None ∷ q.inside)
      × StandsForgotten (called p hints below c w).world f (g ∷ gs) (does wakes d x q)

  -- from the end of which on it ends
  abbrev pub LossEndsInForgotten : Type 0
  LossEndsInForgotten =
      (g : ℕ) → is_resting below ≡ true → StandsForgotten w f (g ∷ gs) q
      → HasAll p hints (upon below (lost p g w))
      → is_resting (alone p hints (upon below (lost p g w))).next ≡ true
      → ((alone p hints (upon below (lost p g w))).next ≡ below)
      × StandsForgotten (alone p hints (upon below (lost p g w))).world f gs
      (does wakes d Ends (record q { inside = Lose None None ∷ q.inside }))

-- wherever a party stands so
abbrev pub InAnyForgotten : (ℕ → ℕ → List ℕ → List Op → World → Plain Output Waker → Choice → List Hint → Type 0) → Type 0
InAnyForgotten So =
    (p f : ℕ) (gs : List ℕ) (below : List Op) (w : World) (q : Plain Output Waker) (d : Choice) (hints : List Hint)
    → So p f gs below w q d hints
