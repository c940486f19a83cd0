-- The innermost code in which a party stands, and what is so there of its future, by what holds of each reached machine.
use Rattle.std.proofs.Common.{◌≡◌, ℕ, ◌+◌, ◌<◌, ◌≤◌, Bool, true, false, List, [], ◌∷◌, length, inl, ⊎_elim}
use Rattle.std.proofs.Common.{refl, sym, ap, ◌∙◌, set, arith}
use Rattle.std.specs.Prelude.{reverse}
use Rattle.std.proofs.lemmas.List.{reverse-reverse}
use Rattle.task_moves.specs.declared.moves.owed.Move.{Move}
use Rattle.task_moves.specs.declared.moves.owed.Move.TheVariants as move
use Rattle.executor_model.specs.declared.call.Reply.TheVariants as reply
use Rattle.executor_model.specs.declared.op.ListOp.TheVariants as list_op
use Rattle.executor_model.specs.declared.op.Op.{Op}
use Rattle.executor_model.specs.declared.op.Op.TheVariants as op
use Rattle.executor_model.specs.declared.op.RunPoll.{RunPoll}
use Rattle.executor_model.specs.declared.op.Section.TheVariants as section
use Rattle.executor_model.specs.declared.op.TableOp.TheVariants as table_op
use Rattle.executor_model.specs.declared.op.UserOp.TheVariants as user_op
use Rattle.executor_model.specs.declared.op.Waker.{Waker}
use Rattle.executor_model.specs.Good.{Good}
use Rattle.executor_model.specs.Rows.{closing_of, leaves_of, past_of, polls_of, ready_of, settling_of}
use Rattle.executor_model.specs.Sound.{Sound, pend, times}
use Rattle.executor_model.specs.Steps.{Machine, stack}
use Rattle.executor_model.specs.Weights.{past, weigh, weigh_all}
use Rattle.executor_model.specs.World.{among, task}
use Rattle.executor_model.proofs.OneFuture.EffectsWays.{view}
use Rattle.executor_model.proofs.OneFuture.Stories.{among_is}
use Rattle.executor_model.proofs.Steps.Lift.{split}
use Rattle.executor_model.proofs.Steps.Lists.{past_is}
use Rattle.executor_model.proofs.Steps.Reached.{Reached, good-here}
use Rattle.plain_scheduler.specs.State.{Closed, Code, Drop, DropOwn, End, Gave, Poll, PollOwn, Ready, Taker}
use Rattle.machine_roads.specs.View.{Output}
use Rattle.machine_roads.specs.Road.{waking_in}
use Rattle.machine_roads.specs.Alone.{is_resting}
use Rattle.machine_roads.specs.Dropped.{EndsBy, given, polled, queued}
use Rattle.machine_roads.specs.Stopped.{Stopped, answered, drops, drops_given, drops_polled, polls}
use Rattle.machine_roads.specs.Within.{GoesOnBy, Nested, drops_own, nowhere, polls_own, takes}
use Rattle.machine_roads.proofs.Having.{heard_here, same_self}
use Rattle.machine_roads.proofs.InHand.{InHand, in_hand}
use Rattle.machine_roads.proofs.Standing.{IsGoing, IsTaken}

-- by which move a drop of a future is followed
pub data IsDropOf : Move → End Output → Type 0 where
  of_queued : IsDropOf move.SettleClosed Closed
  of_polled : IsDropOf move.EndClosed Closed
  of_given : IsDropOf move.EndReady (Gave tt)

pub data Inmost : List Op → List (Code Output Waker) → Type 0 where
  none : Inmost [] []
  poll : (taker : Taker Waker) (final : Op) (below : List Op) (inside : List (Code Output Waker)) (f : ℕ)
      → GoesOnBy taker final → Nested below inside
      → Inmost (op.User (user_op.Poll f) ∷ final ∷ below) (Poll f taker ∷ inside)
  drop : (taker : Taker Waker) (final : Op) (below : List Op) (inside : List (Code Output Waker)) (f : ℕ) (m : Move) (why : End Output)
      → GoesOnBy taker final → IsDropOf m why → Nested below inside
      → Inmost (op.User (user_op.Drop f) ∷ op.Table (table_op.LeaveTable f) ∷ op.Move m f ∷ final ∷ below) (Drop f why taker ∷ inside)
  own_poll : (x : RunPoll) (below : List Op) (inside : List (Code Output Waker)) → Nested below inside
      → Inmost (op.User (user_op.PollOwn x) ∷ below) (PollOwn x.run x.waker ∷ inside)
  own_drop : (r : ℕ) (below : List Op) (inside : List (Code Output Waker)) → Nested below inside
      → Inmost (op.User (user_op.DropOwn r) ∷ op.List (list_op.LockWrite (section.Unregister r reply.Ready)) ∷ below)
      (DropOwn r Ready ∷ inside)

inmost_by : (taker : Taker Waker) (final : Op) (below os : List Op) (inside codes : List (Code Output Waker))
    → GoesOnBy taker final → Nested below inside → Inmost below inside
    → Stopped taker final below inside os codes → Inmost os codes
inmost_by taker final below os inside codes it nested more answered = more
inmost_by taker final below os inside codes it nested more (polls f) = poll taker final below inside f it nested
inmost_by taker final below os inside codes it nested more (drops f) =
    drop taker final below inside f move.SettleClosed Closed it of_queued nested
inmost_by taker final below os inside codes it nested more (drops_polled f) =
    drop taker final below inside f move.EndClosed Closed it of_polled nested
inmost_by taker final below os inside codes it nested more (drops_given f) =
    drop taker final below inside f move.EndReady (Gave tt) it of_given nested

pub inmost : (os : List Op) (codes : List (Code Output Waker)) → Nested os codes → Inmost os codes
inmost os codes nowhere = none
inmost os codes (takes taker final below xs inside more it nested stopped) =
    inmost_by taker final below os inside codes it nested (inmost below inside nested) stopped
inmost os codes (polls_own x below inside nested) = own_poll x below inside nested
inmost os codes (drops_own r below inside nested) = own_drop r below inside nested

-- it rests there, and no code is one of the executor's drop
rests_by : (os : List Op) (codes : List (Code Output Waker)) → Inmost os codes → is_resting os ≡ true
rests_by os codes none = refl
rests_by os codes (poll taker final below inside f it nested) = refl
rests_by os codes (drop taker final below inside f m why it is nested) = refl
rests_by os codes (own_poll x below inside nested) = refl
rests_by os codes (own_drop r below inside nested) = refl

pub rests_in : (os : List Op) (codes : List (Code Output Waker)) → Nested os codes → is_resting os ≡ true
rests_in os codes nested = rests_by os codes (inmost os codes nested)

pub wakes_none : (os : List Op) (codes : List (Code Output Waker)) → Nested os codes → waking_in codes ≡ []
wakes_none os codes nowhere = refl
wakes_none os codes (polls_own x below inside nested) = wakes_none below inside nested
wakes_none os codes (drops_own r below inside nested) = wakes_none below inside nested
wakes_none os codes (takes taker final below xs inside more it nested stopped) =
    by (wakes_none below inside nested) os codes stopped
  where
    by : waking_in inside ≡ [] → (os : List Op) (codes : List (Code Output Waker)) → Stopped taker final below inside os codes
        → waking_in codes ≡ []
    by so os codes answered = so
    by so os codes (polls f) = so
    by so os codes (drops f) = so
    by so os codes (drops_polled f) = so
    by so os codes (drops_given f) = so

below_of : (n f : ℕ) → past n f ≡ 0 → f < n
below_of n f is = grind (arith, past_is)

module _ (s : Machine) (p : ℕ) (reached : Reached s) (there : p < length s.parties) where
  good : Good s
  good = good-here s reached

  -- what the parties have to do is what this one has and the others
  pub whole : (os : List Op) → reverse (stack s p) ≡ os → (v : Op → ℕ)
      → weigh_all v s.parties ≡ weigh v os + weigh_all v (set s.parties p [])
  whole os is v =
      split v s.parties p os [] there (sym (reverse-reverse (stack s p)) ∙ ap (λ (ys : List Op). reverse ys) is)

  entry : (f : ℕ) → 1 ≤ times f s.world.table → among f s.world.table ≡ true
  entry f some = by (among f s.world.table) refl
    where
      by : (b : Bool) → among f s.world.table ≡ b → among f s.world.table ≡ true
      by true here = here
      by false out =
          ⊎_elim (λ (x : (among f s.world.table ≡ true) × (1 ≤ times f s.world.table)). x.0)
          (λ (x : (among f s.world.table ≡ false) × (times f s.world.table ≡ 0)). absurd (omega (arith, some, x.1)))
          (among_is f s.world.table)

  module _ (open_still : s.world.gone ≡ false) (f : ℕ) where
    hand : InHand (view s f)
    hand = in_hand s reached f

    sound : Sound s.world f (pend f s.parties)
    sound = good.sound f

    -- in a poll
    pub is_taken : (os : List Op) → reverse (stack s p) ≡ op.User (user_op.Poll f) ∷ os → IsTaken s.world f
    is_taken os is =
        let xs = op.User (user_op.Poll f) ∷ os in
        let one : 1 ≤ weigh_all (polls_of f) s.parties = omega (arith, whole xs is (polls_of f), same_self f) in
        let x = (heard_here s reached).placed.leaves f in
        record {
          known =
              below_of (length s.world.tasks) f (omega (arith, good.ops, whole xs is (past_of (length s.world.tasks))));
          polled =
              record {
                running = hand.runs (omega (arith, one));
                completed = sound.live (omega (arith, one));
                counted = omega (arith, one, sound.counted);
              };
          entered = entry f (omega (arith, x.runs (omega (arith, one)), x.stay open_still, x.table (inl open_still)));
        }

    -- in a drop
    still : 1 ≤ (pend f s.parties).settling → (b : Bool) → (task s.world f).running ≡ b → (task s.world f).running ≡ false
    still some false off = off
    still some true on = absurd (omega (arith, some, sound.one, sound.going on))

    pub is_going : (m : Move) (why : End Output) (os : List Op) → IsDropOf m why
        → reverse (stack s p) ≡ op.User (user_op.Drop f) ∷ op.Table (table_op.LeaveTable f) ∷ op.Move m f ∷ os → IsGoing s.world f m why
    is_going m why os how is =
        let xs = op.User (user_op.Drop f) ∷ op.Table (table_op.LeaveTable f) ∷ op.Move m f ∷ os in
        let x = (heard_here s reached).placed.leaves f in
        let left : 1 ≤ weigh_all (leaves_of f) s.parties = omega (arith, whole xs is (leaves_of f), same_self f) in
        record {
          known =
              below_of (length s.world.tasks) f (omega (arith, good.ops, whole xs is (past_of (length s.world.tasks))));
          entered = entry f (omega (arith, left, x.once, x.table (inl open_still)));
          ends = by m why how is;
        }
      where
        by : (m : Move) (why : End Output) → IsDropOf m why
            → reverse (stack s p) ≡ op.User (user_op.Drop f) ∷ op.Table (table_op.LeaveTable f) ∷ op.Move m f ∷ os
            → EndsBy (task s.world f) m why
        by m why of_queued is =
            let xs = op.User (user_op.Drop f) ∷ op.Table (table_op.LeaveTable f) ∷ op.Move move.SettleClosed f ∷ os in
            let one : 1 ≤ weigh_all (settling_of f) s.parties = omega (arith, whole xs is (settling_of f), same_self f) in
            queued
            (record {
              scheduled = hand.waits (omega (arith, one));
              running = still (omega (arith, one)) (task s.world f).running refl;
              completed = hand.live (omega (arith, one));
              counted = omega (arith, one, sound.counted);
            })
            (hand.shut (omega (arith, one)))
        by m why of_polled is =
            let xs = op.User (user_op.Drop f) ∷ op.Table (table_op.LeaveTable f) ∷ op.Move move.EndClosed f ∷ os in
            let one : 1 ≤ weigh_all (closing_of f) s.parties = omega (arith, whole xs is (closing_of f), same_self f) in
            polled
            (record {
              running = hand.runs (omega (arith, one));
              completed = hand.live (omega (arith, one));
              counted = omega (arith, one, sound.counted);
            })
            (hand.shut (omega (arith, one)))
        by m why of_given is =
            let xs = op.User (user_op.Drop f) ∷ op.Table (table_op.LeaveTable f) ∷ op.Move move.EndReady f ∷ os in
            let one : 1 ≤ weigh_all (ready_of f) s.parties = omega (arith, whole xs is (ready_of f), same_self f) in
            given
            (record {
              running = hand.runs (omega (arith, one));
              completed = sound.live (omega (arith, one));
              counted = omega (arith, one, sound.counted);
            })
