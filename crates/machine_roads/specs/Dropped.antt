-- The end of the drop of a future that a try or a tick took, or a run with its 200th: its entry goes from the table, the task's run
-- ends, and who awaits the task is called. An output that nobody can take is dropped before that: there the plain scheduler has given up
-- the run's reference and who awaits the task, and the machine does so once that drop has ended. Till then both stand alike but for these.
use Rattle.std.specs.Prelude.{◌≡◌, ℕ, ◌-◌, ◌≤◌, ◌<◌, Bool, true, false, List, [], ◌∷◌, ◌++◌, length, Option, Some, None}
use Rattle.task_moves.specs.declared.moves.owed.Move.{Move}
use Rattle.task_moves.specs.declared.moves.owed.Move.TheVariants as move
use Rattle.task_moves.specs.declared.moves.state.State.{State}
use Rattle.task_moves.specs.Moves as moves
use Rattle.executor_model.specs.declared.op.Op.{Op}
use Rattle.executor_model.specs.declared.op.Op.TheVariants as op
use Rattle.executor_model.specs.declared.op.TableOp.TheVariants as table_op
use Rattle.executor_model.specs.declared.op.UserOp.TheVariants as user_op
use Rattle.executor_model.specs.declared.op.Waker.{Waker}
use Rattle.executor_model.specs.declared.step.Hint.{Hint}
use Rattle.executor_model.specs.declared.step.UserEnd.TheVariants as end
use Rattle.executor_model.specs.Carried.{awaiter_ops}
use Rattle.executor_model.specs.Steps.{react}
use Rattle.executor_model.specs.World.{World, Done, among, awaiter_of, put, put_awaiter, task}
use Rattle.plain_scheduler.specs.State.{Choice, Closed, Drop, End, Gave, Lose, Plain, Taker}
use Rattle.plain_scheduler.specs.Calls.{does, Ends}
use Rattle.machine_roads.specs.View.{Output, waker_in, wakes}
use Rattle.machine_roads.specs.Moving.{IsPolled, IsQueued}
use Rattle.machine_roads.specs.Road.{Follows, IsStored}
use Rattle.machine_roads.specs.Alone.{alone, is_resting, HasAll}
use Rattle.machine_roads.specs.Alike.{upon, LeavesAlike}
use Rattle.machine_roads.specs.Stopped.{Finally}

-- the task without its run's reference and who awaits it
abbrev pub without_run : ℕ → World → World
without_run f w =
    put_awaiter (put w f (record (task w f) { references = (task w f).references - 1; awaiter = false })) f None

-- the future of a task is dropped, whose run hasn't ended, and but for this both stand so
pub record IsEndingBy (So : World → Type 0) (w : World) (f : ℕ) (awaiter : Option Waker) : Type 0 where
  pub known : f < length w.tasks
  pub over : moves.is_over (task w f) ≡ true
  pub still : moves.is_going (task w f) ≡ false
  pub counted : 1 ≤ (task w f).references
  pub stored : IsStored (task w f) (awaiter_of w f)
  pub awaited : waker_in (awaiter_of w f) ≡ awaiter
  pub follows : So (without_run f w)

-- both stand alike but for this
abbrev pub IsEnding : World → ℕ → Option Waker → Plain Output Waker → Type 0
IsEnding w f awaiter q = IsEndingBy (λ v. Follows v q) w f awaiter

-- who awaits the task is called, and the run's reference is given up
abbrev pub rest_of : Bool → ℕ → Op → List Op
rest_of awaited f final = awaiter_ops f (moves.notify_if awaited) ++ (op.Move move.GiveUp f ∷ final ∷ [])

-- by which move a run ends once its future is dropped: of a queued task that is closed, of one that was closed while it was polled,
-- or of one whose poll gave an output
pub data EndsBy (s : State) : Move → End Output → Type 0 where
  queued : IsQueued s → s.closed ≡ true → EndsBy s move.SettleClosed Closed
  polled : IsPolled s → s.closed ≡ true → EndsBy s move.EndClosed Closed
  given : IsPolled s → EndsBy s move.EndReady (Gave tt)

-- the call is answered, or stands in the drop of the output
pub data Drops (taker : Taker Waker) (final : Op) (below : List Op) (f : ℕ) (q : Plain Output Waker) (end : Done) (new : Plain Output Waker)
    : Type 0 where
  answered : end.next ≡ below → new.inside ≡ q.inside → Follows end.world new
      → Drops taker final below f q end new
  loses : (awaiter : Option Waker) → end.next ≡ op.User (user_op.DropOutput f) ∷ (rest_of (task end.world f).awaiter f final ++ below)
      → new.inside ≡ Lose awaiter (Some taker) ∷ q.inside → IsEnding end.world f awaiter new → Drops taker final below f q end new

-- the drop of the future ends
abbrev pub dropped : Move → Op → ℕ → ℕ → World → Done
dropped m final p f w =
    upon (op.Table (table_op.LeaveTable f) ∷ op.Move m f ∷ final ∷ []) (react p (op.User (user_op.Drop f)) end.Done w)

abbrev pub DropsAlikeInTake : ℕ → Option Waker → List Op → World → Plain Output Waker → Type 0
DropsAlikeInTake p here below w q =
    (taker : Taker Waker) (final : Op) → Finally q taker final → (f : ℕ) (m : Move) (why : End Output) → f < length w.tasks
    → among f w.table ≡ true → EndsBy (task w f) m why
    → (c : Choice) → length q.lying ≤ c.tells → (hints : List Hint) → HasAll p hints (upon below (dropped m final p f w))
    → is_resting (alone p hints (upon below (dropped m final p f w))).next ≡ true
    → Drops taker final below f q (alone p hints (upon below (dropped m final p f w)))
    (does wakes c Ends (record q { inside = Drop f why taker ∷ q.inside }))

-- the drop of the output ends
abbrev pub lost : Op → ℕ → ℕ → World → Done
lost final p f w = upon (rest_of (task w f).awaiter f final) (react p (op.User (user_op.DropOutput f)) end.Done w)

-- in whatever world the call stands in it, and goes on alone from there
abbrev pub LosesAlikeInTake : Type 0
LosesAlikeInTake =
    (taker : Taker Waker) (final : Op) (p f : ℕ) (below : List Op) (w : World) (q : Plain Output Waker) (awaiter : Option Waker)
    (c : Choice) → Finally q taker final → is_resting below ≡ true → IsEnding w f awaiter q → length q.lying ≤ c.tells
    → LeavesAlike p below (lost final p f w) (does wakes c Ends (record q { inside = Lose awaiter (Some taker) ∷ q.inside }))
