-- Calls inside of the drop of an output that goes with its handle. There the machine's task still has the handle, as in the drops of such
-- outputs around it: both stand alike but for these handles.
use Rattle.std.specs.Prelude.{◌≡◌, ℕ, ◌<◌, ◌≤◌, Bool, true, false, not, List, [], ◌∷◌, ◌++◌, length, Option, Some, None}
use Rattle.executor_model.specs.declared.call.Call.{Call}
use Rattle.executor_model.specs.declared.call.Call.TheVariants as call
use Rattle.executor_model.specs.declared.op.Op.{Op}
use Rattle.executor_model.specs.declared.op.Op.TheVariants as op
use Rattle.executor_model.specs.declared.op.UserOp.TheVariants as user_op
use Rattle.executor_model.specs.declared.op.Waker.{Waker}
use Rattle.executor_model.specs.declared.step.Hint.{Hint}
use Rattle.executor_model.specs.Steps.{is_on_executor}
use Rattle.executor_model.specs.World.{Done, World, among, task}
use Rattle.plain_scheduler.specs.State.{Choice, Code, Lose, Plain, Refusal}
use Rattle.plain_scheduler.specs.Calls as plain
use Rattle.plain_scheduler.specs.Calls.{does, Ends}
use Rattle.machine_roads.specs.View.{Output, wakes}
use Rattle.machine_roads.specs.Road.{Follows}
use Rattle.machine_roads.specs.Alone.{alone, is_resting, HasAll}
use Rattle.machine_roads.specs.Alike.{begins, upon}
use Rattle.machine_roads.specs.Closing.{called, loses}
use Rattle.machine_roads.specs.Course.{IsCall}
use Rattle.machine_roads.specs.Losing.{left_of, lost, without_handle}

-- the output of this one is given or lost
pub record IsShut (w : World) (f : ℕ) : Type 0 where
  pub known : f < length w.tasks
  pub closed : (task w f).closed ≡ true

-- so are those of all these, and each is another
abbrev pub AreShut : World → List ℕ → Type 0
AreShut w [] = Unit {0}
AreShut w (f ∷ fs) = IsShut w f × (among f fs ≡ false) × AreShut w fs

abbrev pub without_handles : List ℕ → World → World
without_handles [] w = w
without_handles (f ∷ fs) w = without_handle f (without_handles fs w)

-- the outputs of these are being dropped, one inside another, and both stand alike but for their handles
pub record AreLosing (w : World) (fs : List ℕ) (q : Plain Output Waker) : Type 0 where
  pub shut : AreShut w fs
  pub follows : Follows (without_handles fs w) q

-- the handle that a call is of
abbrev pub handle_in : Call → Option ℕ
handle_in (call.PollHandle f b) = Some f
handle_in (call.Cancel f) = Some f
handle_in (call.Detach f) = Some f
handle_in (call.DropHandle f) = Some f
handle_in _ = None

-- none of these
abbrev pub spares : List ℕ → Option ℕ → Bool
spares fs None = true
spares fs (Some f) = not (among f fs)

-- a call of a waker or of another handle
pub record IsCallInLoss (fs : List ℕ) (w : World) (c : Call) (x : plain.Call Output Waker) : Type 0 where
  pub off : is_on_executor c ≡ false
  pub spared : spares fs (handle_in c) ≡ true
  pub is : IsCall w c x

module _ (p : ℕ) (fs : List ℕ) (below : List Op) (w : World) (q : Plain Output Waker) (d : Choice) (hints : List Hint) where
  -- it ends, and both stand so still
  abbrev pub CallsInLoss : Type 0
  CallsInLoss =
      (c : Call) (x : plain.Call Output Waker) → is_resting below ≡ true → AreLosing w fs q → IsCallInLoss fs w c x
      → loses x q ≡ false → length q.lying ≤ d.tells → HasAll p hints (upon below (begins p None c w))
      → is_resting (called p hints below c w).next ≡ true
      → (r : Refusal) × ((called p hints below c w).next ≡ below)
      × AreLosing (called p hints below c w).world fs (does wakes (record d { refusal = r }) x q)

  -- or it comes to the drop of another output
  abbrev pub LosesInLoss : Type 0
  LosesInLoss =
      (c : Call) (x : plain.Call Output Waker) → is_resting below ≡ true → AreLosing w fs q → IsCallInLoss fs w c x
      → loses x q ≡ true → HasAll p hints (upon below (begins p None c w))
      → is_resting (called p hints below c w).next ≡ true
      → (f : ℕ) × ((called p hints below c w).next ≡ op.User (user_op.DropOutput f) ∷ (left_of f ++ below))
      × ((does wakes d x q).inside ≡ Lose None None ∷ q.inside)
      × AreLosing (called p hints below c w).world (f ∷ fs) (does wakes d x q)

  -- from the end of which on it ends
  abbrev pub LossEndsInLoss : Type 0
  LossEndsInLoss =
      (f : ℕ) → is_resting below ≡ true → AreLosing w (f ∷ fs) q
      → HasAll p hints (upon below (lost p f w)) → is_resting (alone p hints (upon below (lost p f w))).next ≡ true
      → ((alone p hints (upon below (lost p f w))).next ≡ below)
      × AreLosing (alone p hints (upon below (lost p f w))).world fs
      (does wakes d Ends (record q { inside = Lose None None ∷ q.inside }))

-- wherever a party stands so
abbrev pub InAnyLoss : (ℕ → List ℕ → List Op → World → Plain Output Waker → Choice → List Hint → Type 0) → Type 0
InAnyLoss So =
    (p : ℕ) (fs : List ℕ) (below : List Op) (w : World) (q : Plain Output Waker) (d : Choice) (hints : List Hint)
    → So p fs below w q d hints

-- what is left to do in such drops, one inside another, above what lies below them, and the code in which the plain scheduler's calls stand
abbrev pub loss_ops : List ℕ → List Op → List Op
loss_ops [] below = below
loss_ops (f ∷ fs) below = op.User (user_op.DropOutput f) ∷ (left_of f ++ loss_ops fs below)

abbrev pub loss_codes : List ℕ → List (Code Output Waker) → List (Code Output Waker)
loss_codes [] codes = codes
loss_codes (f ∷ fs) codes = Lose None None ∷ loss_codes fs codes

-- a party stands in them
pub record StopsInLoss (fs : List ℕ) (below : List Op) (codes : List (Code Output Waker)) (e : Done) (q : Plain Output Waker) : Type 0 where
  pub left : e.next ≡ loss_ops fs below
  pub inside : q.inside ≡ loss_codes fs codes
  pub losing : AreLosing e.world fs q
