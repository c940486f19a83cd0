-- Where a party comes to that has user code to call: what it has still to do, above what lies below, is what the plain scheduler
-- knows of the code in which the call stands.
use Rattle.std.specs.Prelude.{◌≡◌, ℕ, ◌≤◌, ◌<◌, true, false, List, ◌∷◌, length, slice_get, Option}
use Rattle.executor_parts.specs.Marks.{first_of}
use Rattle.task_moves.specs.declared.moves.owed.Move.TheVariants as move
use Rattle.executor_model.specs.declared.call.Call.TheVariants as call
use Rattle.executor_model.specs.declared.call.Reply.TheVariants as reply
use Rattle.executor_model.specs.declared.event.Answer.TheVariants as answer
use Rattle.executor_model.specs.declared.op.Hold.TheVariants as hold
use Rattle.executor_model.specs.declared.op.Op.{Op}
use Rattle.executor_model.specs.declared.op.Op.TheVariants as op
use Rattle.executor_model.specs.declared.op.RunOp.TheVariants as run_op
use Rattle.executor_model.specs.declared.op.RunPoll.{RunPoll}
use Rattle.executor_model.specs.declared.op.TableOp.TheVariants as table_op
use Rattle.executor_model.specs.declared.op.UserOp.TheVariants as user_op
use Rattle.executor_model.specs.declared.op.Waker.{Waker}
use Rattle.executor_model.specs.declared.step.Hint.{Hint}
use Rattle.executor_model.specs.declared.step.UserEnd.TheVariants as end
use Rattle.executor_model.specs.Acts.{is_last_waker}
use Rattle.executor_model.specs.Steps.{react}
use Rattle.executor_model.specs.World.{World, Done, among, task}
use Rattle.plain_scheduler.specs.State.{Choice, Closed, Code, Drop, Gave, Plain, Poll, Run, Taker, Tick, Try}
use Rattle.plain_scheduler.specs.Lists.{or}
use Rattle.plain_scheduler.specs.Calls.{does, EndsWith, Pends, TryTick}
use Rattle.machine_roads.specs.View.{Output, wakes}
use Rattle.machine_roads.specs.Moving.{IsPolled}
use Rattle.machine_roads.specs.Road.{Follows}
use Rattle.machine_roads.specs.Alone.{alone, is_resting, HasAll}
use Rattle.machine_roads.specs.Alike.{begins, upon}

-- so many futures a run has taken since it let others go first
abbrev pub taken_by : ℕ → Plain Output Waker → ℕ
taken_by r q = or (slice_get q.runs r) (λ run. run.taken) 0

-- a call that takes one future, a try or a tick's poll, and how it ends behind that; or the poll of a run with its 200th, behind which
-- it calls its own waker
pub data Finally (q : Plain Output Waker) : Taker Waker → Op → Type 0 where
  of_try : Finally q Try (op.End reply.Yes hold.Executor)
  of_tick : (t : ℕ) (a : Waker) → Finally q (Tick t a) (op.End reply.Ready (hold.Tick t))
  of_last : (x : RunPoll) → taken_by x.run q ≡ 200 → Finally q (Run x.run x.waker) (op.Run (run_op.WakeOwn x))

pub data Stopped (taker : Taker Waker) (final : Op) (below : List Op) (inside : List (Code Output Waker))
    : List Op → List (Code Output Waker) → Type 0 where
  -- the call is answered
  answered : Stopped taker final below inside below inside
  -- in a poll of a future that it took, or in its drop, where it is closed
  polls : (f : ℕ) → Stopped taker final below inside (op.User (user_op.Poll f) ∷ final ∷ below) (Poll f taker ∷ inside)
  drops : (f : ℕ)
      → Stopped taker final below inside
      (op.User (user_op.Drop f) ∷ op.Table (table_op.LeaveTable f) ∷ op.Move move.SettleClosed f ∷ final ∷ below)
      (Drop f Closed taker ∷ inside)
  -- in the drop of one that was closed while it was polled
  drops_polled : (f : ℕ)
      → Stopped taker final below inside
      (op.User (user_op.Drop f) ∷ op.Table (table_op.LeaveTable f) ∷ op.Move move.EndClosed f ∷ final ∷ below)
      (Drop f Closed taker ∷ inside)
  -- in the drop of one whose poll gave an output
  drops_given : (f : ℕ)
      → Stopped taker final below inside
      (op.User (user_op.Drop f) ∷ op.Table (table_op.LeaveTable f) ∷ op.Move move.EndReady f ∷ final ∷ below)
      (Drop f (Gave tt) taker ∷ inside)

pub record Stops (taker : Taker Waker) (final : Op) (below : List Op) (q : Plain Output Waker) (end : Done)
    (new : Plain Output Waker) : Type 0 where
  pub stopped : Stopped taker final below q.inside end.next new.inside
  pub follows : Follows end.world new

-- a try of a tick: the plain scheduler looks first at the mark that the turn names, and tells who lay down last
abbrev pub TriesAlike : ℕ → Option Waker → List Op → World → Plain Output Waker → Type 0
TriesAlike p here below w q =
    (c : Choice) → c.first ≡ first_of w.urgent_turns → length q.lying ≤ c.tells → (hints : List Hint)
    → HasAll p hints (upon below (begins p here call.TryTick w))
    → is_resting (alone p hints (upon below (begins p here call.TryTick w))).next ≡ true
    → Stops Try (op.End reply.Yes hold.Executor) below q (alone p hints (upon below (begins p here call.TryTick w)))
    (does wakes c TryTick q)

-- a future that is polled and in the table, and after whose poll somebody could still wake it or ask for it
pub record IsInPoll (w : World) (f : ℕ) : Type 0 where
  pub known : f < length w.tasks
  pub polled : IsPolled (task w f)
  pub entered : among f w.table ≡ true
  pub reached : is_last_waker move.EndPending (task w f) ≡ false

-- the poll of a future that was taken ends without an output
abbrev pub pended : ℕ → ℕ → Op → List Op → World → Done
pended p f final below w = upon (final ∷ below) (react p (op.User (user_op.Poll f)) (end.Polled answer.Pending) w)

abbrev pub PendsAlikeInTake : ℕ → Option Waker → List Op → World → Plain Output Waker → Type 0
PendsAlikeInTake p here below w q =
    (taker : Taker Waker) (final : Op) → Finally q taker final → (f : ℕ) → IsInPoll w f → (c : Choice) → length q.lying ≤ c.tells
    → (hints : List Hint) → HasAll p hints (pended p f final below w)
    → is_resting (alone p hints (pended p f final below w)).next ≡ true
    → Stops taker final below q (alone p hints (pended p f final below w))
    (does wakes c Pends (record q { inside = Poll f taker ∷ q.inside }))

-- and with one
abbrev pub given : ℕ → ℕ → Op → List Op → World → Done
given p f final below w = upon (final ∷ below) (react p (op.User (user_op.Poll f)) (end.Polled answer.Ready) w)

abbrev pub GivesAlikeInTake : ℕ → Option Waker → List Op → World → Plain Output Waker → Type 0
GivesAlikeInTake p here below w q =
    (taker : Taker Waker) (final : Op) (f : ℕ) (c : Choice) (hints : List Hint) → HasAll p hints (given p f final below w)
    → is_resting (alone p hints (given p f final below w)).next ≡ true
    → Stops taker final below q (alone p hints (given p f final below w))
    (does wakes c (EndsWith tt) (record q { inside = Poll f taker ∷ q.inside }))
