-- A future that nobody can wake or ask for any more is dropped as its poll ends. Who awaits it is let go once that drop has ended: till
-- then both stand alike but for who awaits it.
use Rattle.std.specs.Prelude.{◌≡◌, ℕ, ◌≤◌, ◌<◌, true, false, List, [], ◌∷◌, length, Option, None}
use Rattle.task_moves.specs.declared.moves.owed.Move.TheVariants as move
use Rattle.task_moves.specs.AbstractTask.{Finished}
use Rattle.executor_model.specs.declared.op.HandleOp.TheVariants as handle_op
use Rattle.executor_model.specs.declared.op.Op.{Op}
use Rattle.executor_model.specs.declared.op.Op.TheVariants as op
use Rattle.executor_model.specs.declared.op.TableOp.TheVariants as table_op
use Rattle.executor_model.specs.declared.op.UserOp.TheVariants as user_op
use Rattle.executor_model.specs.declared.op.Waker.{Waker}
use Rattle.executor_model.specs.declared.step.Hint.{Hint}
use Rattle.executor_model.specs.declared.step.UserEnd.TheVariants as end
use Rattle.executor_model.specs.Acts.{is_last_waker}
use Rattle.executor_model.specs.Steps.{react}
use Rattle.executor_model.specs.World.{World, Done, among, awaiter_of, put, put_awaiter, task}
use Rattle.plain_scheduler.specs.State.{Choice, Closed, Drop, Plain, Poll, Taker}
use Rattle.plain_scheduler.specs.Moves as plain
use Rattle.plain_scheduler.specs.Calls.{does, Ends, Pends}
use Rattle.machine_roads.specs.View.{Output, waker_in, wakes}
use Rattle.machine_roads.specs.Moving.{IsPolled}
use Rattle.machine_roads.specs.Road.{Follows}
use Rattle.machine_roads.specs.Alone.{alone, is_resting, HasAll}
use Rattle.machine_roads.specs.Alike.{upon, LeavesAlike}
use Rattle.machine_roads.specs.Stopped.{Finally, pended}

-- without who awaits the task
abbrev pub without_awaiter : ℕ → World → World
without_awaiter f w = put_awaiter (put w f (record (task w f) { awaiter = false })) f None

abbrev pub unawaited : ℕ → Plain Output Waker → Plain Output Waker
unawaited f q = plain.put f (record (plain.task f q) { awaiter = None }) q

-- a future is polled behind whose poll nobody could wake it or ask for it
pub record IsLastPoll (w : World) (f : ℕ) : Type 0 where
  pub known : f < length w.tasks
  pub polled : IsPolled (task w f)
  pub entered : among f w.table ≡ true
  pub last : is_last_waker move.EndPending (task w f) ≡ true

-- it is being dropped, and but for who awaits it both stand so
pub record IsForgottenBy (So : World → Plain Output Waker → Type 0) (w : World) (f : ℕ) (q : Plain Output Waker) : Type 0 where
  pub known : f < length w.tasks
  pub entered : among f w.table ≡ true
  pub spent : (task w f).references ≡ 0
  pub unheld : (task w f).handle ≡ false
  pub finished : (plain.task f q).phase ≡ Finished
  pub closed : (plain.task f q).closed ≡ true
  pub awaited : (plain.task f q).awaiter ≡ waker_in (awaiter_of w f)
  pub follows : So (without_awaiter f w) (unawaited f q)

-- both stand alike but for who awaits it
abbrev pub IsForgotten : World → ℕ → Plain Output Waker → Type 0
IsForgotten w f q = IsForgottenBy Follows w f q

-- the call stands in that drop
pub record StopsForgetting (taker : Taker Waker) (final : Op) (below : List Op) (f : ℕ) (q : Plain Output Waker) (end : Done)
    (new : Plain Output Waker) : Type 0 where
  pub left : end.next
      ≡ op.User (user_op.Drop f) ∷ op.Table (table_op.LeaveTable f) ∷ op.Handle (handle_op.LetGo f) ∷ final ∷ below
  pub inside : new.inside ≡ Drop f Closed taker ∷ q.inside
  pub forgotten : IsForgotten end.world f new

abbrev pub ForgetsAlikeInTake : ℕ → Option Waker → List Op → World → Plain Output Waker → Type 0
ForgetsAlikeInTake p here below w q =
    (taker : Taker Waker) (final : Op) (f : ℕ) → IsLastPoll w f → (c : Choice) (hints : List Hint)
    → HasAll p hints (pended p f final below w) → is_resting (alone p hints (pended p f final below w)).next ≡ true
    → StopsForgetting taker final below f q (alone p hints (pended p f final below w))
    (does wakes c Pends (record q { inside = Poll f taker ∷ q.inside }))

-- the drop ends
abbrev pub forgotten : Op → ℕ → ℕ → World → Done
forgotten final p f w =
    upon (op.Table (table_op.LeaveTable f) ∷ op.Handle (handle_op.LetGo f) ∷ final ∷ []) (react p (op.User (user_op.Drop f)) end.Done w)

-- in whatever world the call stands in it, and goes on alone from there
abbrev pub ForgottenGoesAlike : Type 0
ForgottenGoesAlike =
    (taker : Taker Waker) (final : Op) (p f : ℕ) (below : List Op) (w : World) (q : Plain Output Waker) (c : Choice)
    → Finally q taker final → is_resting below ≡ true → IsForgotten w f q → length q.lying ≤ c.tells
    → LeavesAlike p below (forgotten final p f w) (does wakes c Ends (record q { inside = Drop f Closed taker ∷ q.inside }))
