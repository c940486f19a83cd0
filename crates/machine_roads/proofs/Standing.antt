-- Where a call that takes one future has come to, with what is so there of the future.
use Rattle.std.proofs.Common.{◌≡◌, ℕ, ◌<◌, true, List, ◌∷◌, length}
use Rattle.task_moves.specs.declared.moves.owed.Move.{Move}
use Rattle.executor_model.specs.declared.op.Op.{Op}
use Rattle.executor_model.specs.declared.op.Op.TheVariants as op
use Rattle.executor_model.specs.declared.op.TableOp.TheVariants as table_op
use Rattle.executor_model.specs.declared.op.UserOp.TheVariants as user_op
use Rattle.executor_model.specs.declared.op.Waker.{Waker}
use Rattle.executor_model.specs.World.{World, Done, among, task}
use Rattle.plain_scheduler.specs.State.{Code, Drop, End, Plain, Poll, Taker}
use Rattle.machine_roads.specs.View.{Output}
use Rattle.machine_roads.specs.Moving.{IsPolled}
use Rattle.machine_roads.specs.Road.{Follows}
use Rattle.machine_roads.specs.Stopped.{Stopped, Stops, answered, drops, drops_given, drops_polled, polls}
use Rattle.machine_roads.specs.Dropped.{EndsBy, given, polled, queued}

pub record IsTaken (w : World) (f : ℕ) : Type 0 where
  pub known : f < length w.tasks
  pub polled : IsPolled (task w f)
  pub entered : among f w.table ≡ true

pub record IsGoing (w : World) (f : ℕ) (m : Move) (why : End Output) : Type 0 where
  pub known : f < length w.tasks
  pub entered : among f w.table ≡ true
  pub ends : EndsBy (task w f) m why

-- behind a poll it is answered, or stands in the drop of the future
pub data Stays (taker : Taker Waker) (final : Op) (below : List Op) (inside : List (Code Output Waker)) (w : World)
    : List Op → List (Code Output Waker) → Type 0 where
  Answered : Stays taker final below inside w below inside
  InDrop : (f : ℕ) (m : Move) (why : End Output) → IsGoing w f m why
      → Stays taker final below inside w (op.User (user_op.Drop f) ∷ op.Table (table_op.LeaveTable f) ∷ op.Move m f ∷ final ∷ below)
      (Drop f why taker ∷ inside)

-- before that it may stand in the poll
pub data Stands (taker : Taker Waker) (final : Op) (below : List Op) (inside : List (Code Output Waker)) (w : World)
    : List Op → List (Code Output Waker) → Type 0 where
  InPoll : (f : ℕ) → IsTaken w f → Stands taker final below inside w (op.User (user_op.Poll f) ∷ final ∷ below) (Poll f taker ∷ inside)
  Behind : (os : List Op) (codes : List (Code Output Waker)) → Stays taker final below inside w os codes
      → Stands taker final below inside w os codes

pub record StaysSo (taker : Taker Waker) (final : Op) (below : List Op) (q : Plain Output Waker) (end : Done)
    (new : Plain Output Waker) : Type 0 where
  pub stays : Stays taker final below q.inside end.world end.next new.inside
  pub follows : Follows end.world new

pub record StandsSo (taker : Taker Waker) (final : Op) (below : List Op) (q : Plain Output Waker) (end : Done)
    (new : Plain Output Waker) : Type 0 where
  pub stands : Stands taker final below q.inside end.world end.next new.inside
  pub follows : Follows end.world new

module _ (taker : Taker Waker) (final : Op) (below : List Op) where
  stays_of : (inside : List (Code Output Waker)) (w : World) (os : List Op) (codes : List (Code Output Waker))
      → Stays taker final below inside w os codes → Stopped taker final below inside os codes
  stays_of inside w os codes Answered = answered
  stays_of inside w os codes (InDrop f m why going) = by m why going.ends
    where
      by : (m : Move) (why : End Output) → EndsBy (task w f) m why
          → Stopped taker final below inside
          (op.User (user_op.Drop f) ∷ op.Table (table_op.LeaveTable f) ∷ op.Move m f ∷ final ∷ below) (Drop f why taker ∷ inside)
      by m why (queued is closed) = drops f
      by m why (polled is closed) = drops_polled f
      by m why (given is) = drops_given f

  stands_of : (inside : List (Code Output Waker)) (w : World) (os : List Op) (codes : List (Code Output Waker))
      → Stands taker final below inside w os codes → Stopped taker final below inside os codes
  stands_of inside w os codes (InPoll f taken) = polls f
  stands_of inside w os codes (Behind xs ys stays) = stays_of inside w os codes stays

  pub stopped_so : (q : Plain Output Waker) (end : Done) (new : Plain Output Waker) → StaysSo taker final below q end new
      → Stops taker final below q end new
  stopped_so q end new so =
      record { stopped = stays_of q.inside end.world end.next new.inside so.stays; follows = so.follows }

  pub stops_so : (q : Plain Output Waker) (end : Done) (new : Plain Output Waker) → StandsSo taker final below q end new
      → Stops taker final below q end new
  stops_so q end new so =
      record { stopped = stands_of q.inside end.world end.next new.inside so.stands; follows = so.follows }
