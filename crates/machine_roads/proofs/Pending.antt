-- The end of a poll of a future that a try or a tick took: the task rests, or comes into its queue, or its future is to be dropped.
use Rattle.std.proofs.Common.{◌≡◌, ℕ, ◌≤◌, ◌++◌, ◌&&◌, not, Bool, true, false, List, ◌∷◌, length, Option, Some, is_some}
use Rattle.std.proofs.Common.{slice_set, refl, sym, ap, subst, ◌∙◌}
use Rattle.std.proofs.lemmas.List.{set-get_or}
use Rattle.task_moves.specs.declared.moves.owed.Move.TheVariants as move
use Rattle.task_moves.specs.declared.moves.state.State.{State}
use Rattle.task_moves.specs.AbstractTask as abstract
use Rattle.task_moves.specs.AbstractTask.{AbstractTask}
use Rattle.task_moves.specs.AbstractTask.PendingEnd.{Queues, Rests}
use Rattle.task_moves.specs.LocalTask.{info_of, told}
use Rattle.task_moves.specs.Moves as moves
use Rattle.executor_model.specs.declared.event.Answer.TheVariants as answer
use Rattle.executor_model.specs.declared.event.Event.TheVariants as event
use Rattle.executor_model.specs.declared.op.Op.{Op}
use Rattle.executor_model.specs.declared.op.Op.TheVariants as op
use Rattle.executor_model.specs.declared.op.TableOp.TheVariants as table_op
use Rattle.executor_model.specs.declared.op.UserOp.TheVariants as user_op
use Rattle.executor_model.specs.declared.op.Waker.{Waker}
use Rattle.executor_model.specs.declared.step.Hint.{Hint}
use Rattle.executor_model.specs.Acts.{told_of}
use Rattle.executor_model.specs.Carried.{owed_ops}
use Rattle.executor_model.specs.World.{World, Done, done, among, awaiter_of, blank, log}
use Rattle.executor_model.specs.World as world
use Rattle.plain_scheduler.specs.State.{Choice, Closed, Drop, Gave, Drops as DropsFuture, Plain, Poll, Taker}
use Rattle.plain_scheduler.specs.Moves.{becomes, put, see, task, tell}
use Rattle.plain_scheduler.specs.Takes as plain_takes
use Rattle.plain_scheduler.specs.Searches.{behind_pending}
use Rattle.plain_scheduler.specs.Calls as plain_calls
use Rattle.plain_scheduler.specs.Calls.{does, EndsWith, Pends}
use Rattle.machine_roads.specs.View.{Output, view, waker_in, wakes}
use Rattle.machine_roads.specs.Moving.{IsMove, IsPolled, pended_by}
use Rattle.machine_roads.specs.Road.{Follows}
use Rattle.machine_roads.specs.Alone.{alone, is_resting, HasAll}
use Rattle.machine_roads.specs.Dropped.{given as given_by, polled as polled_by}
use Rattle.machine_roads.specs.Stopped.{Finally, GivesAlikeInTake, IsInPoll, PendsAlikeInTake, Stops, drops_given, given, pended}
use Rattle.machine_roads.proofs.Aside.{becomes_inside}
use Rattle.machine_roads.proofs.Changing.{logs, puts, sees}
use Rattle.machine_roads.proofs.Exchanging.{loudly}
use Rattle.machine_roads.proofs.Moved.{Then, becoming, fits}
use Rattle.machine_roads.proofs.Passing.{GoesBy, passed, stays_by, stood, telling}
use Rattle.machine_roads.proofs.RunsStay.{RunsStay, becomes_stays}
use Rattle.machine_roads.proofs.Running.{end_of, pending_is, run_alike}
use Rattle.machine_roads.proofs.Standing.{InDrop, IsTaken, StaysSo, stopped_so}
use Rattle.machine_roads.proofs.Stepping.{Way, next}
use Rattle.machine_roads.proofs.Trying.{stops_at}
use Rattle.machine_roads.proofs.Unseen.{places_so, stands_in}

-- what the end of such a poll makes of a task, mark by mark
pub pends_as : (s : State) (aw : Option Waker) → IsPolled s → (x y z : Bool) → s.closed ≡ x → s.scheduled ≡ y → moves.is_last s ≡ z
    → IsMove (moves.end_pending_by x y z s) s aw (pended_by (end_of x y z) (view s aw))
pends_as s aw is x y z closed woken last =
    subst (λ x. IsMove (moves.end_pending_by x y z s) s aw (pended_by (end_of x y z) (view s aw))) closed
    (subst (λ y. IsMove (moves.end_pending_by s.closed y z s) s aw (pended_by (end_of s.closed y z) (view s aw))) woken
    (subst (λ z. IsMove (moves.end_pending_by s.closed s.scheduled z s) s aw (pended_by (end_of s.closed s.scheduled z) (view s aw)))
    last
    (subst (λ e. IsMove (moves.end_pending s) s aw (pended_by e (view s aw))) (pending_is s aw is) ((run_alike s aw).pends is).is)))

module _ (p : ℕ) (below : List Op) (under : is_resting below ≡ true) (end : Done) (rests : is_resting end.next ≡ true)
    (taker : Taker Waker) (final : Op) (c : Choice) where
  abbrev pends_with : ℕ → Plain Output Waker → Choice → Plain Output Waker
  pends_with f q d = does wakes d Pends (record q { inside = Poll f taker ∷ q.inside })

  abbrev behind_with : ℕ → Plain Output Waker → Choice → Option (Plain Output Waker)
  behind_with f q d = behind_pending wakes d (abstract.pending_end (task f q)) f q

  abbrev pub PendsBy : ℕ → Plain Output Waker → Type 0
  PendsBy f q = GoesBy p taker final below q c.tells end (pends_with f q) (behind_with f q) (StaysSo taker final below q end)

  -- a task that stays becomes another
  stays : (f : ℕ) (q : Plain Output Waker) (new : AbstractTask Output Waker) → length q.lying ≤ c.tells
      → Then p end (final ∷ below) (becomes wakes (tell wakes c) f new q)
      → ((d : Choice) → pends_with f q (telling c.tells d)
      ≡ plain_takes.next wakes (telling c.tells d) taker (becomes wakes (tell wakes c) f new q))
      → ((d : Choice) → behind_with f q (telling c.tells d) ≡ Some (becomes wakes (tell wakes c) f new q))
      → PendsBy f q
  stays f q new many so is at =
      passed
      (record {
        before = becomes wakes (tell wakes c) f new q;
        so = so;
        fit = fits p end rests (tell wakes c) (λ q. length q.lying ≤ c.tells) (loudly p end rests c) f new q many;
        inside = becomes_inside c f new q;
        stay = becomes_stays c f new q;
        is = is;
        at = at;
      })

  pended_ends : (f : ℕ) (w : World) (q : Plain Output Waker) → length q.lying ≤ c.tells → Follows w q → IsInPoll w f
      → Way p end w (op.Move move.EndPending f ∷ final ∷ below) → PendsBy f q
  pended_ends f w q many follows is way =
      let s1 = next p end rests (op.Move move.EndPending f) w (final ∷ below) refl way in
      by (world.task w f).closed (world.task w f).scheduled (moves.is_last (world.task w f)) refl refl refl is.reached
      (pending_is (world.task w f) (waker_in (awaiter_of w f)) is.polled) s1.way
    where
      by : (x y z : Bool) → (world.task w f).closed ≡ x → (world.task w f).scheduled ≡ y
          → moves.is_last (world.task w f) ≡ z → (not x && (not y && z)) ≡ false
          → abstract.pending_end (view (world.task w f) (waker_in (awaiter_of w f))) ≡ end_of x y z
          → Way p end (world.put (told_of (not x && (not y && z)) false move.EndPending p w f) f
          (moves.end_pending_by x y z (world.task w f)).state)
          (owed_ops (among f (told_of (not x && (not y && z)) false move.EndPending p w f).table) f
          (moves.end_pending_by x y z (world.task w f)).owed ++ (final ∷ below))
          → PendsBy f q
      by true y z closed woken last_one reached ending way =
          let os = final ∷ below in
          let s = world.task w f in
          let now : Way p end w (op.Table (table_op.TakeToDrop f) ∷ op.Move move.EndClosed f ∷ os) =
          subst (λ ts. Way p end (record w { tasks = ts }) (op.Table (table_op.TakeToDrop f) ∷ op.Move move.EndClosed f ∷ os))
          (set-get_or w.tasks f blank)
          (subst (λ x. Way p end (world.put w f s) (owed_ops x f (moves.end_pending_by true y z s).owed ++ os)) is.entered way) in
          let s2 = next p end rests (op.Table (table_op.TakeToDrop f)) w (op.Move move.EndClosed f ∷ os) refl now in
          let w2 = record w { inside = slice_set w.inside f false } in
          let s3 = next p end rests (op.User (user_op.BeginDrop f)) w2 (op.Move move.EndClosed f ∷ os) refl s2.way in
          let w3 = log w2 (event.Dropped p f) in
          let last =
          stops_at p below under end rests
          (op.User (user_op.Drop f) ∷ op.Table (table_op.LeaveTable f) ∷ op.Move move.EndClosed f ∷ os) w3 refl s3.way in
          stood (λ d. subst (λ e. StaysSo taker final below q end (plain_calls.pending_by wakes (telling c.tells d) e f taker q))
          (sym (ap abstract.pending_end (follows.tasks f is.known) ∙ ending))
          (subst (λ (e : Done). StaysSo taker final below q e (plain_takes.dropping wakes c f Closed taker q)) last
          (record {
            stays =
                InDrop f move.EndClosed Closed
                (record { known = is.known; entered = is.entered; ends = polled_by is.polled closed });
            follows =
                stands_in (Drop f Closed taker ∷ q.inside) w3 (see (DropsFuture f) q)
                (sees w2 q (places_so (slice_set w.inside f false) w q follows) (event.Dropped p f) (DropsFuture f) refl) refl;
          })))
          (λ d. subst (λ e. RunsStay q (plain_calls.pending_by wakes (telling c.tells d) e f taker q))
          (sym (ap abstract.pending_end (follows.tasks f is.known) ∙ ending))
          (record { runs = refl; kept = λ k. refl; lying = refl }))
          (λ d. ap (λ e. behind_pending wakes (telling c.tells d) e f q) (ap abstract.pending_end (follows.tasks f is.known) ∙ ending))
      by false true z open_still woken last_one reached ending way =
          let os = final ∷ below in
          let s = world.task w f in
          let aw = waker_in (awaiter_of w f) in
          let t : AbstractTask Output Waker = task f q in
          let tk : t ≡ view s aw = follows.tasks f is.known in
          let after : State = record s { running = false } in
          let new : AbstractTask Output Waker = abstract.queue true t in
          let al : IsMove (moves.end_pending_by false true z s) s aw (abstract.queue true (view s aw)) =
          pends_as s aw is.polled false true z open_still woken last_one in
          let stored = follows.stored f is.known in
          let follows2 : Follows (world.put w f after) (put f new q) =
          puts w q follows f is.known after new (al.task ∙ ap (λ t. told (abstract.queue true t)) (sym tk))
          (record { awaiter = stored.awaiter; registering = stored.registering; notifying = stored.notifying })
          (λ over. absurd cc) in
          let put_in =
          becoming p end rests (tell wakes c) (λ q. length q.lying ≤ c.tells) (loudly p end rests c) f (world.put w f after) os q new
          true follows2 many (ap (λ t. is_some (info_of t (abstract.queue true t))) tk ∙ sym al.queues) way in
          let ending_is : abstract.pending_end t ≡ Queues = ap abstract.pending_end tk ∙ ending in
          stays f q new many put_in
          (λ d. ap (λ e. plain_calls.pending_by wakes (telling c.tells d) e f taker q) ending_is
          ∙ ap
          (λ e. plain_takes.next wakes (telling c.tells d) taker (becomes wakes (tell wakes c) f (abstract.end_pending_by e t).task q))
          ending_is)
          (λ d. ap (λ e. behind_pending wakes (telling c.tells d) e f q) ending_is
          ∙ ap (λ e. Some (becomes wakes (tell wakes c) f (abstract.end_pending_by e t).task q)) ending_is)
      by false false true open_still woken last_one reached ending way = absurd cc
      by false false false open_still woken last_one reached ending way =
          let os = final ∷ below in
          let s = world.task w f in
          let aw = waker_in (awaiter_of w f) in
          let t : AbstractTask Output Waker = task f q in
          let tk : t ≡ view s aw = follows.tasks f is.known in
          let m = moves.end_pending_by false false false s in
          let new : AbstractTask Output Waker = record t { phase = abstract.Phase.Idle } in
          let al : IsMove m s aw (record (view s aw) { phase = abstract.Phase.Idle }) =
          pends_as s aw is.polled false false false open_still woken last_one in
          let stored = follows.stored f is.known in
          let follows2 : Follows (world.put w f m.state) (put f new q) =
          puts w q follows f is.known m.state new
          (al.task ∙ ap (λ (t : AbstractTask Output Waker). told (record t { phase = abstract.Phase.Idle })) (sym tk))
          (record { awaiter = stored.awaiter; registering = stored.registering; notifying = stored.notifying })
          (λ over. absurd cc) in
          let put_in =
          becoming p end rests (tell wakes c) (λ q. length q.lying ≤ c.tells) (loudly p end rests c) f (world.put w f m.state) os q new
          false follows2 many
          (ap (λ (t : AbstractTask Output Waker). is_some (info_of t (record t { phase = abstract.Phase.Idle }))) tk ∙ sym al.queues)
          way in
          let ending_is : abstract.pending_end t ≡ Rests = ap abstract.pending_end tk ∙ ending in
          stays f q new many put_in
          (λ d. ap (λ e. plain_calls.pending_by wakes (telling c.tells d) e f taker q) ending_is
          ∙ ap
          (λ e. plain_takes.next wakes (telling c.tells d) taker (becomes wakes (tell wakes c) f (abstract.end_pending_by e t).task q))
          ending_is)
          (λ d. ap (λ e. behind_pending wakes (telling c.tells d) e f q) ending_is
          ∙ ap (λ e. Some (becomes wakes (tell wakes c) f (abstract.end_pending_by e t).task q)) ending_is)

pub pends_by : (p : ℕ) (below : List Op) (w : World) (q : Plain Output Waker) (under : is_resting below ≡ true) → Follows w q
    → (taker : Taker Waker) (final : Op) (f : ℕ) → IsInPoll w f → (c : Choice) → length q.lying ≤ c.tells
    → (hints : List Hint) → HasAll p hints (pended p f final below w)
    → (rests : is_resting (alone p hints (pended p f final below w)).next ≡ true)
    → PendsBy p below under (alone p hints (pended p f final below w)) rests taker final c f q
pends_by p below w q under follows taker final f is c many hints has rests =
    let w0 = log w (event.Answered p f answer.Pending) in
    let os = final ∷ below in
    let end = alone p hints (done w0 (op.Table (table_op.PutBack f) ∷ os)) in
    let start : Way p end w0 (op.Table (table_op.PutBack f) ∷ os) = record { hints = hints; has = has; is = refl } in
    let s = next p end rests (op.Table (table_op.PutBack f)) w0 os refl start in
    let w1 = record w0 { inside = slice_set w.inside f true } in
    let follows1 : Follows w1 q =
    places_so (slice_set w.inside f true) w0 q (logs w q follows (event.Answered p f answer.Pending) refl) in
    pended_ends p below under end rests taker final c f w1 q many follows1
    (record { known = is.known; polled = is.polled; entered = is.entered; reached = is.reached }) s.way

pub pends_so : (p : ℕ) (below : List Op) (w : World) (q : Plain Output Waker) → is_resting below ≡ true → Follows w q
    → (taker : Taker Waker) (final : Op) → Finally q taker final → (f : ℕ) → IsInPoll w f → (c : Choice) → length q.lying ≤ c.tells
    → (hints : List Hint) → HasAll p hints (pended p f final below w) → is_resting (alone p hints (pended p f final below w)).next ≡ true
    → StaysSo taker final below q (alone p hints (pended p f final below w))
    (does wakes c Pends (record q { inside = Poll f taker ∷ q.inside }))
pends_so p below w q under follows taker final it f is c many hints has rests =
    stays_by p below under (alone p hints (pended p f final below w)) rests taker final q it c
    (λ d. does wakes d Pends (record q { inside = Poll f taker ∷ q.inside }))
    (λ d. behind_pending wakes d (abstract.pending_end (task f q)) f q)
    (pends_by p below w q under follows taker final f is c many hints has rests)

pub pends : (p : ℕ) (here : Option Waker) (below : List Op) (w : World) (q : Plain Output Waker) → is_resting below ≡ true
    → Follows w q → PendsAlikeInTake p here below w q
pends p here below w q under follows taker final it f is c many hints has rests =
    stopped_so taker final below q (alone p hints (pended p f final below w))
    (does wakes c Pends (record q { inside = Poll f taker ∷ q.inside }))
    (pends_so p below w q under follows taker final it f is c many hints has rests)

pub gives_so : (p : ℕ) (below : List Op) (w : World) (q : Plain Output Waker) → is_resting below ≡ true → Follows w q
    → (taker : Taker Waker) (final : Op) (f : ℕ) (c : Choice) (hints : List Hint) → HasAll p hints (given p f final below w)
    → is_resting (alone p hints (given p f final below w)).next ≡ true
    → (IsTaken w f → StaysSo taker final below q (alone p hints (given p f final below w))
    (does wakes c (EndsWith tt) (record q { inside = Poll f taker ∷ q.inside })))
    × Stops taker final below q (alone p hints (given p f final below w))
    (does wakes c (EndsWith tt) (record q { inside = Poll f taker ∷ q.inside }))
gives_so p below w q under follows taker final f c hints has rests =
    let w0 = log w (event.Answered p f answer.Ready) in
    let os = op.Move move.EndReady f ∷ final ∷ below in
    let end = alone p hints (done w0 (op.User (user_op.BeginDrop f) ∷ os)) in
    let start : Way p end w0 (op.User (user_op.BeginDrop f) ∷ os) = record { hints = hints; has = has; is = refl } in
    let s = next p end rests (op.User (user_op.BeginDrop f)) w0 os refl start in
    let w1 = log w0 (event.Dropped p f) in
    let last =
    stops_at p below under end rests (op.User (user_op.Drop f) ∷ op.Table (table_op.LeaveTable f) ∷ os) w1 refl s.way in
    let new : Plain Output Waker = plain_takes.dropping wakes c f (Gave tt) taker q in
    let follows1 : Follows w1 new =
    stands_in (Drop f (Gave tt) taker ∷ q.inside) w1 (see (DropsFuture f) q)
    (sees w0 q (logs w q follows (event.Answered p f answer.Ready) refl) (event.Dropped p f) (DropsFuture f) refl) refl in
    subst (λ (e : Done). (IsTaken w f → StaysSo taker final below q e new) × Stops taker final below q e new) last (
      λ taken. record {
        stays =
            InDrop f move.EndReady (Gave tt)
            (record { known = taken.known; entered = taken.entered; ends = given_by taken.polled });
        follows = follows1;
      },
      record { stopped = drops_given f; follows = follows1 },
    )

pub gives : (p : ℕ) (here : Option Waker) (below : List Op) (w : World) (q : Plain Output Waker) → is_resting below ≡ true
    → Follows w q → GivesAlikeInTake p here below w q
gives p here below w q under follows taker final f c hints has rests =
    (gives_so p below w q under follows taker final f c hints has rests).1
