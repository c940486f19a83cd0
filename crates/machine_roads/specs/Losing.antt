-- A handle that goes of a future whose output is there comes to the drop of that output. There the plain scheduler has given the
-- handle up; the machine does so once the drop has ended. Till then both stand alike but for it.
use Rattle.std.specs.Prelude.{◌≡◌, ℕ, ◌<◌, true, false, List, [], ◌∷◌, ◌++◌, length, Option, None, is_some}
use Rattle.task_moves.specs.declared.moves.owed.Move.TheVariants as move
use Rattle.executor_model.specs.declared.call.Call.TheVariants as call
use Rattle.executor_model.specs.declared.call.Reply.TheVariants as reply
use Rattle.executor_model.specs.declared.op.Hold.TheVariants as hold
use Rattle.executor_model.specs.declared.op.Op.{Op}
use Rattle.executor_model.specs.declared.op.Op.TheVariants as op
use Rattle.executor_model.specs.declared.op.UserOp.TheVariants as user_op
use Rattle.executor_model.specs.declared.op.Waker.{Waker}
use Rattle.executor_model.specs.declared.step.Hint.{Hint}
use Rattle.executor_model.specs.declared.step.UserEnd.TheVariants as end
use Rattle.executor_model.specs.Steps.{react}
use Rattle.executor_model.specs.World.{World, Done, put, task}
use Rattle.plain_scheduler.specs.State.{Choice, Lose, Plain}
use Rattle.plain_scheduler.specs.Moves as plain
use Rattle.plain_scheduler.specs.Calls.{does, Detach, DropHandle, Ends}
use Rattle.machine_roads.specs.View.{Output, wakes}
use Rattle.machine_roads.specs.Road.{Follows}
use Rattle.machine_roads.specs.Alone.{alone, is_resting, HasAll}
use Rattle.machine_roads.specs.Alike.{begins, upon, LeavesAlike}

abbrev pub without_handle : ℕ → World → World
without_handle f w = put w f (record (task w f) { handle = false })

-- a future is there whose output is given or lost, and both stand alike but for its handle
pub record IsLosing (w : World) (f : ℕ) (q : Plain Output Waker) : Type 0 where
  pub known : f < length w.tasks
  pub closed : (task w f).closed ≡ true
  pub follows : Follows (without_handle f w) q

-- what is left of such a call behind the output's drop
abbrev pub left_of : ℕ → List Op
left_of f = op.Move move.Detach f ∷ op.End reply.Done (hold.Handle f) ∷ []

-- the call stands in that drop
pub record StopsLosing (f : ℕ) (below : List Op) (q : Plain Output Waker) (end : Done) (new : Plain Output Waker) : Type 0 where
  pub left : end.next ≡ op.User (user_op.DropOutput f) ∷ (left_of f ++ below)
  pub inside : new.inside ≡ Lose None None ∷ q.inside
  pub losing : IsLosing end.world f new

-- a call that began so comes to it
abbrev pub ComesToLose : ℕ → ℕ → List Op → Done → Plain Output Waker → Plain Output Waker → Type 0
ComesToLose p f below d q new =
    (hints : List Hint) → HasAll p hints (upon below d) → is_resting (alone p hints (upon below d)).next ≡ true
    → StopsLosing f below q (alone p hints (upon below d)) new

module _ (p : ℕ) (here : Option Waker) (below : List Op) (w : World) (q : Plain Output Waker) where
  abbrev pub DetachesToLose : Type 0
  DetachesToLose =
      (c : Choice) (f : ℕ) → is_some (plain.task f q).output ≡ true
      → ComesToLose p f below (begins p here (call.Detach f) w) q (does wakes c (Detach f) q)

  abbrev pub GoesToLose : Type 0
  GoesToLose =
      (c : Choice) (f : ℕ) → is_some (plain.task f q).output ≡ true
      → ComesToLose p f below (begins p here (call.DropHandle f) w) q (does wakes c (DropHandle f) q)

-- the drop of the output ends
abbrev pub lost : ℕ → ℕ → World → Done
lost p f w = upon (left_of f) (react p (op.User (user_op.DropOutput f)) end.Done w)

-- in whatever world a call stands in it, and goes on alone from there
abbrev pub LosesAlike : Type 0
LosesAlike =
    (p f : ℕ) (below : List Op) (w : World) (q : Plain Output Waker) (c : Choice) → is_resting below ≡ true → IsLosing w f q
    → LeavesAlike p below (lost p f w) (does wakes c Ends (record q { inside = Lose None None ∷ q.inside }))
