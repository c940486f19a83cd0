-- Behind the poll or the drop of a future that was taken turn, counts and list are as they were: until what takes goes on, or more user
-- code comes.
use Rattle.std.proofs.Common.{◌≡◌, ℕ, ◌≤◌, ◌<◌, ◌++◌, ◌&&◌, not, Bool, true, false, List, [], ◌∷◌, length, Option, None, refl, ap, sym}
use Rattle.std.proofs.Common.{subst, ◌∙◌}
use Rattle.task_moves.specs.declared.moves.owed.Move.{Move}
use Rattle.task_moves.specs.declared.moves.owed.Move.TheVariants as move
use Rattle.task_moves.specs.AbstractTask as abstract
use Rattle.task_moves.specs.Moves as moves
use Rattle.executor_model.specs.declared.event.Answer.TheVariants as answer
use Rattle.executor_model.specs.declared.event.Event.TheVariants as event
use Rattle.executor_model.specs.declared.op.HandleOp.TheVariants as handle_op
use Rattle.executor_model.specs.declared.op.Op.{Op}
use Rattle.executor_model.specs.declared.op.Op.TheVariants as op
use Rattle.executor_model.specs.declared.op.TableOp.TheVariants as table_op
use Rattle.executor_model.specs.declared.op.Waker.{Waker}
use Rattle.executor_model.specs.declared.step.Hint.{Hint}
use Rattle.executor_model.specs.Carried.{awaiter_ops}
use Rattle.executor_model.specs.World.{Done, World, among, awaiter_of, done, log}
use Rattle.executor_model.specs.World as world
use Rattle.plain_scheduler.specs.State.{Choice, Closed, End, Plain, Poll, Taker}
use Rattle.plain_scheduler.specs.Moves.{task}
use Rattle.plain_scheduler.specs.Calls.{does, Pends}
use Rattle.plain_scheduler.specs.Searches.{behind_pending}
use Rattle.machine_roads.specs.View.{Output, waker_in, wakes}
use Rattle.machine_roads.specs.Road.{Follows}
use Rattle.machine_roads.specs.Alone.{HasAll, alone, is_resting}
use Rattle.machine_roads.specs.Dropped.{Drops, EndsBy, IsEnding, rest_of}
use Rattle.machine_roads.specs.Forgotten.{IsForgotten, IsLastPoll, StopsForgetting}
use Rattle.machine_roads.specs.Searching.{start_of}
use Rattle.machine_roads.specs.Stopped.{IsInPoll}
use Rattle.machine_roads.proofs.AloneKeeps.{due}
use Rattle.machine_roads.proofs.Forgetting.{forgets_by, forgets_with, forgotten_by}
use Rattle.machine_roads.proofs.Passing.{GoesBy, passed, stood, telling}
use Rattle.machine_roads.proofs.PassingStill.{GoesStill, drops_apart, forgets_apart, goes_still, stays_apart}
use Rattle.machine_roads.proofs.Pending.{pends_by}
use Rattle.machine_roads.proofs.RunEnding.{behind_dropped, behind_lost, dropped_by, drops_with, loses_with, lost_by}
use Rattle.machine_roads.proofs.Running.{end_of, pending_is}
use Rattle.machine_roads.proofs.Seeking.{seeks}
use Rattle.machine_roads.proofs.Standing.{StaysSo}
use Rattle.machine_roads.proofs.Still.{Still, alone_still}

module _ (p : ℕ) (below : List Op) (under : is_resting below ≡ true) (w : World) (taker : Taker Waker) (final : Op)
    (q : Plain Output Waker) (c : Choice) (hints : List Hint) where
  abbrev went : List Op → Done
  went os = alone p hints (done w (os ++ (final ∷ below)))

  -- its turn, counts and list are as they were
  abbrev pub StillBy : List Op → (Choice → Plain Output Waker) → (Choice → Option (Plain Output Waker)) → (Plain Output Waker → Type 0)
      → Type 0
  StillBy os new behind So =
      GoesStill (start_of p hints (done w (os ++ (final ∷ below)))) (Still w) p taker final below q c.tells (went os) new behind So

  -- the poll of a future that is still polled or queued, or is closed
  abbrev pub pends_with : ℕ → Choice → Plain Output Waker
  pends_with f d = does wakes d Pends (record q { inside = Poll f taker ∷ q.inside })

  abbrev pub behind_pended : ℕ → Choice → Option (Plain Output Waker)
  behind_pended f d = behind_pending wakes d (abstract.pending_end (task f q)) f q

  module _ (f : ℕ) where
    abbrev w0 : World
    w0 = log w (event.Answered p f answer.Pending)

    -- from the world that the answer left
    kept : (os : List Op) → ((hs : List Hint) → Still w0 (alone p hs (done w0 (os ++ []))).world)
        → (hs : List Hint) → Still w (alone p hs (done w0 (os ++ []))).world
    kept os still hs =
        let it = still hs in
        record { turn = it.turn; counted = it.counted; listed = it.listed }

    abbrev pub Pended : (Plain Output Waker → Type 0) → Type 0
    Pended So =
        GoesStill (start_of p hints (done w0 (op.Table (table_op.PutBack f) ∷ final ∷ below))) (Still w) p taker final below q c.tells
        (alone p hints (done w0 (op.Table (table_op.PutBack f) ∷ final ∷ below))) (pends_with f) (behind_pended f) So

    pub pended_still : Follows w q → IsInPoll w f → length q.lying ≤ c.tells
        → HasAll p hints (done w0 (op.Table (table_op.PutBack f) ∷ final ∷ below))
        → is_resting (alone p hints (done w0 (op.Table (table_op.PutBack f) ∷ final ∷ below))).next ≡ true
        → Pended (StaysSo taker final below q (alone p hints (done w0 (op.Table (table_op.PutBack f) ∷ final ∷ below))))
    pended_still follows is many all rests =
        goes_still (Still w) p w0 (op.Table (table_op.PutBack f) ∷ []) refl
        (kept (op.Table (table_op.PutBack f) ∷ []) (λ hs. alone_still p hs w0 (op.Table (table_op.PutBack f) ∷ []) refl)) below under
        taker final q c.tells (pends_with f) (behind_pended f) (λ o e z. StaysSo taker o below q e z) c hints
        (λ o hs has resting. pends_by p below w q under follows taker o f is c many hs has resting)
        (λ e z is so. stays_apart taker below q e z is so) all rests

    pub forgets_still : Follows w q → IsLastPoll w f → HasAll p hints (done w0 (op.Table (table_op.PutBack f) ∷ final ∷ below))
        → is_resting (alone p hints (done w0 (op.Table (table_op.PutBack f) ∷ final ∷ below))).next ≡ true
        → Pended (StopsForgetting taker final below f q (alone p hints (done w0 (op.Table (table_op.PutBack f) ∷ final ∷ below))))
    forgets_still follows is all rests =
        goes_still (Still w) p w0 (op.Table (table_op.PutBack f) ∷ []) refl
        (kept (op.Table (table_op.PutBack f) ∷ []) (λ hs. alone_still p hs w0 (op.Table (table_op.PutBack f) ∷ []) refl)) below under
        taker final q c.tells (pends_with f) (behind_pended f) (λ o e z. StopsForgetting taker o below f q e z) c hints
        (λ o hs has resting.
        stood (λ d. (forgets_by p below w q under follows taker o f is (telling c.tells d) hs has resting).stops)
        (λ d. (forgets_by p below w q under follows taker o f is (telling c.tells d) hs has resting).stay)
        (λ d. none (telling c.tells d)))
        (λ e z is so. forgets_apart taker below f q e z is so) all rests
      where
        by : (x y z : Bool) → (not x && (not y && z)) ≡ true → abstract.pending_end (task f q) ≡ end_of x y z → (d : Choice)
            → behind_pended f d ≡ None
        by true y z last ending d = absurd cc
        by false true z last ending d = absurd cc
        by false false false last ending d = absurd cc
        by false false true last ending d = ap (λ e. behind_pending wakes d e f q) ending

        none : (d : Choice) → behind_pended f d ≡ None
        none d =
            by (world.task w f).closed (world.task w f).scheduled (moves.is_last (world.task w f)) is.last
            (ap abstract.pending_end (follows.tasks f is.known) ∙ pending_is (world.task w f) (waker_in (awaiter_of w f)) is.polled) d

  -- the drop of a future
  abbrev pub dropped_ops : ℕ → Move → List Op
  dropped_ops f m = op.Table (table_op.LeaveTable f) ∷ op.Move m f ∷ []

  pub dropped_still : Follows w q → (f : ℕ) (m : Move) (why : End Output) → f < length w.tasks → among f w.table ≡ true
      → EndsBy (world.task w f) m why → length q.lying ≤ c.tells → HasAll p hints (done w (dropped_ops f m ++ (final ∷ below)))
      → is_resting (went (dropped_ops f m)).next ≡ true
      → StillBy (dropped_ops f m) (drops_with taker f why q) (behind_dropped f why q)
      (Drops taker final below f q (went (dropped_ops f m)))
  dropped_still follows f m why known entered ends many all rests =
      goes_still (Still w) p w (dropped_ops f m) refl (λ hs. alone_still p hs w (dropped_ops f m) refl) below under taker final q c.tells
      (drops_with taker f why q) (behind_dropped f why q) (λ o e z. Drops taker o below f q e z) c hints
      (λ o hs has resting. dropped_by p below w q under follows taker o f m why known entered ends c many hs has resting)
      (λ e z is so. drops_apart taker below f q e z is so) all rests

  -- that of one that nobody could wake
  abbrev pub forgotten_ops : ℕ → List Op
  forgotten_ops f = op.Table (table_op.LeaveTable f) ∷ op.Handle (handle_op.LetGo f) ∷ []

  abbrev Nothing : Plain Output Waker → Type 0
  Nothing z = ⊥

  pub forgotten_still : (f : ℕ) → IsForgotten w f q → length q.lying ≤ c.tells
      → HasAll p hints (done w (forgotten_ops f ++ (final ∷ below)))
      → is_resting (went (forgotten_ops f)).next ≡ true
      → StillBy (forgotten_ops f) (forgets_with taker f q) (behind_dropped f Closed q) Nothing
  forgotten_still f is many all rests =
      goes_still (Still w) p w (forgotten_ops f) refl (λ hs. alone_still p hs w (forgotten_ops f) refl) below under taker final q c.tells
      (forgets_with taker f q) (behind_dropped f Closed q) (λ o e z. Nothing z) c hints
      (λ o hs has resting. passed (forgotten_by taker o p f below w q c is many hs has resting))
      (λ e z is so. so) all rests

  -- that of an output
  abbrev lost_ops : Bool → ℕ → List Op
  lost_ops awaited f = awaiter_ops f (moves.notify_if awaited) ++ (op.Move move.GiveUp f ∷ [])

  lost_is : (b : Bool) (f : ℕ) (o : Op) → rest_of b f o ++ below ≡ lost_ops b f ++ (o ∷ below)
  lost_is true f o = refl
  lost_is false f o = refl

  lost_unread : (b : Bool) (f : ℕ) → due seeks (lost_ops b f) ≡ 0
  lost_unread true f = refl
  lost_unread false f = refl

  lost_none : (b : Bool) (f : ℕ) (hs : List Hint) → Still w (alone p hs (done w (lost_ops b f ++ []))).world
  lost_none true f hs = alone_still p hs w (lost_ops true f) refl
  lost_none false f hs = alone_still p hs w (lost_ops false f) refl

  pub lost_still : (f : ℕ) (awaiter : Option Waker) → IsEnding w f awaiter q → length q.lying ≤ c.tells
      → HasAll p hints (done w (rest_of (world.task w f).awaiter f final ++ below))
      → is_resting (alone p hints (done w (rest_of (world.task w f).awaiter f final ++ below))).next ≡ true
      → GoesStill (start_of p hints (done w (rest_of (world.task w f).awaiter f final ++ below))) (Still w) p taker final below q c.tells
      (alone p hints (done w (rest_of (world.task w f).awaiter f final ++ below)))
      (loses_with taker awaiter q) (behind_lost awaiter q) Nothing
  lost_still f awaiter is many all rests =
      let b = (world.task w f).awaiter in
      subst
      (λ os. GoesStill (start_of p hints (done w os)) (Still w) p taker final below q c.tells (alone p hints (done w os))
      (loses_with taker awaiter q) (behind_lost awaiter q) Nothing) (sym (lost_is b f final))
      (goes_still (Still w) p w (lost_ops b f) (lost_unread b f) (lost_none b f) below under taker final q c.tells
      (loses_with taker awaiter q) (behind_lost awaiter q) (λ o e z. Nothing z) c hints goes (λ e z is so. so)
      (subst (λ os. HasAll p hints (done w os)) (lost_is b f final) all)
      (subst (λ os. is_resting (alone p hints (done w os)).next ≡ true) (lost_is b f final) rests))
    where
      Goes : Op → List Hint → List Op → Type 0
      Goes o hs os =
          HasAll p hs (done w os) → is_resting (alone p hs (done w os)).next ≡ true
          → GoesBy p taker o below q c.tells (alone p hs (done w os)) (loses_with taker awaiter q) (behind_lost awaiter q) Nothing

      goes : (o : Op) (hs : List Hint) → Goes o hs (lost_ops (world.task w f).awaiter f ++ (o ∷ below))
      goes o hs =
          subst (Goes o hs) (lost_is (world.task w f).awaiter f o)
          (λ has resting. passed (lost_by taker o p f below w q awaiter c is many hs has resting))
