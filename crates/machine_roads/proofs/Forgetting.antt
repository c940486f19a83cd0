-- A future that nobody can wake or ask for any more is dropped as its poll ends, and who awaits it is let go.
use Rattle.std.proofs.Common.{◌≡◌, ℕ, ◌≤◌, ◌<◌, ◌==◌, ◌++◌, ◌&&◌, not, Bool, true, false, List, ◌∷◌, length, Option, Some, None}
use Rattle.std.proofs.Common.{slice_get, slice_set, if◌then◌else◌, refl, sym, ap, subst, ◌∙◌, arith}
use Rattle.std.proofs.lemmas.List.{get_or-set_same}
use Rattle.task_moves.specs.declared.moves.owed.Move.TheVariants as move
use Rattle.task_moves.specs.declared.moves.state.State.{State}
use Rattle.task_moves.specs.AbstractTask as abstract
use Rattle.task_moves.specs.AbstractTask.{AbstractTask, Phase, Idle, Queued, Polling, PollingWoken, Finished}
use Rattle.task_moves.specs.LocalTask.{finish_by, told, token}
use Rattle.task_moves.specs.Moves as moves
use Rattle.executor_model.specs.declared.event.Answer.TheVariants as answer
use Rattle.executor_model.specs.declared.event.Event.TheVariants as event
use Rattle.executor_model.specs.declared.op.HandleOp.TheVariants as handle_op
use Rattle.executor_model.specs.declared.op.Op.{Op}
use Rattle.executor_model.specs.declared.op.Op.TheVariants as op
use Rattle.executor_model.specs.declared.op.TableOp.TheVariants as table_op
use Rattle.executor_model.specs.declared.op.UserOp.TheVariants as user_op
use Rattle.executor_model.specs.declared.op.Waker.{Waker}
use Rattle.executor_model.specs.declared.step.Hint.{Hint}
use Rattle.executor_model.specs.Acts.{entry_goes, leave_by, let_go_by, told_of}
use Rattle.executor_model.specs.Acts as acts
use Rattle.executor_model.specs.Carried.{owed_ops}
use Rattle.executor_model.specs.World.{World, Done, done, among, awaiter_of, blank, log, put_awaiter, without}
use Rattle.executor_model.specs.World as world
use Rattle.plain_scheduler.specs.State.{Choice, Closed, Code, Drop, Drops as DropsFuture, Future, Plain, Poll, Taker}
use Rattle.plain_scheduler.specs.Lists.{on}
use Rattle.plain_scheduler.specs.Moves.{let_go, put, release, see, task, tell}
use Rattle.plain_scheduler.specs.Takes as plain_takes
use Rattle.plain_scheduler.specs.Searches.{behind_drop, behind_out}
use Rattle.plain_scheduler.specs.Calls as plain_calls
use Rattle.plain_scheduler.specs.Calls.{does, Ends, Pends}
use Rattle.machine_roads.specs.View.{Output, view, waker_in, wakes}
use Rattle.machine_roads.specs.Moving.{IsMove}
use Rattle.machine_roads.specs.Road.{Follows}
use Rattle.machine_roads.specs.Alone.{alone, is_resting, HasAll}
use Rattle.machine_roads.specs.Alike.{upon}
use Rattle.machine_roads.specs.Forgotten.{ForgetsAlikeInTake, ForgottenGoesAlike, IsForgotten, IsLastPoll, StopsForgetting, unawaited}
use Rattle.machine_roads.specs.Forgotten.{forgotten, without_awaiter}
use Rattle.machine_roads.specs.Stopped.{pended}
use Rattle.machine_roads.proofs.Aside.{goes_inside}
use Rattle.machine_roads.proofs.Changing.{logs, sees, settles}
use Rattle.machine_roads.proofs.Dropped.{gone, gone_at, gone_task, marked, marks}
use Rattle.machine_roads.proofs.Exchanging.{loudly}
use Rattle.machine_roads.proofs.Lists.{get_below, length_set, set_same, set_twice}
use Rattle.machine_roads.proofs.Passing.{Passes, passes_end, telling}
use Rattle.machine_roads.proofs.Pending.{pends_as}
use Rattle.machine_roads.proofs.Polling.{let_go_fits, lets_go_so}
use Rattle.machine_roads.proofs.Puts.{put_at, put_by, put_is, put_lying, task_put, with_task}
use Rattle.machine_roads.proofs.Running.{end_of, pending_is}
use Rattle.machine_roads.proofs.RunsStay.{RunsStay, goes_stays, marked_stays, put_stays, stay_on}
use Rattle.machine_roads.proofs.Stepping.{Way, next}
use Rattle.machine_roads.proofs.Trying.{stops_at}
use Rattle.machine_roads.proofs.Unseen.{places_so, stands_in}

unheld_last : (b h : Bool) → (b && not h) ≡ true → h ≡ false
unheld_last b false is = refl
unheld_last true true is = absurd cc
unheld_last false true is = absurd cc

-- its task, with who awaits it and without
abbrev left_task : AbstractTask Output Waker → AbstractTask Output Waker
left_task t = record t { phase = Finished; closed = true }

abbrev left_alone : AbstractTask Output Waker → AbstractTask Output Waker
left_alone t = record t { phase = Finished; closed = true; awaiter = None }

-- it stands in the drop of that future, and runs are as they were
pub record Forgets (taker : Taker Waker) (final : Op) (below : List Op) (f : ℕ) (q : Plain Output Waker) (end : Done)
    (new : Plain Output Waker) : Type 0 where
  pub stops : StopsForgetting taker final below f q end new
  pub stay : RunsStay q new

module _ (p : ℕ) (below : List Op) (under : is_resting below ≡ true) (end : Done) (rests : is_resting end.next ≡ true)
    (taker : Taker Waker) (final : Op) (c : Choice) (f : ℕ) (w : World) (q : Plain Output Waker) (follows : Follows w q)
    (is : IsLastPoll w f) where
  abbrev s : State
  s = world.task w f

  abbrev aw : Option Waker
  aw = waker_in (awaiter_of w f)

  abbrev t : AbstractTask Output Waker
  t = task f q

  abbrev s2 : State
  s2 = (moves.end_pending_by false false true s).state

  abbrev os : List Op
  os = final ∷ below

  -- it is being dropped
  abbrev w4 : World
  w4 =
      log (record (world.put (log w (event.LastWaker p f)) f s2) { inside = slice_set w.inside f false }) (event.Dropped p f)

  abbrev code : List (Code Output Waker)
  code = Drop f Closed taker ∷ q.inside

  abbrev dropping : Future Output Waker → Plain Output Waker
  dropping x = record (see (DropsFuture f) (put_at f (left_task t) x q)) { inside = code }

  -- both stand alike but for who awaits it
  alone_so : s.closed ≡ false → s.scheduled ≡ false → moves.is_last s ≡ true → (x : Future Output Waker)
      → slice_get q.futures f ≡ Some x → Follows (without_awaiter f w4) (unawaited f (dropping x))
  alone_so open_still unwoken last_one x there =
      let at = is.known in
      let s3 : State = record s2 { awaiter = false } in
      let tk : t ≡ view s aw = follows.tasks f at in
      let al : IsMove (moves.end_pending_by false false true s) s aw (left_task (view s aw)) =
      pends_as s aw is.polled false false true open_still unwoken last_one in
      let stored = follows.stored f at in
      let base : World = put_awaiter (world.put w f s3) f None in
      let one : Follows base (put f (left_alone t) q) =
      settles w q follows f at s3 None (left_alone t)
      (ap (λ (t : AbstractTask Output Waker). record t { awaiter = None }) al.task ∙ ap (λ t. told (left_alone t)) (sym tk))
      (record { awaiter = refl; registering = stored.registering; notifying = stored.notifying })
      (λ over. refl) in
      let two : Follows base (put_at f (left_alone t) x q) = subst (Follows base) (put_is f (left_alone t) q x there) one in
      let q2 : Plain Output Waker = put_at f (left_alone t) x q in
      let told_last : World = log base (event.LastWaker p f) in
      let out : World = record told_last { inside = slice_set w.inside f false } in
      let three : Follows (log out (event.Dropped p f)) (record (see (DropsFuture f) q2) { inside = code }) =
      stands_in code (log out (event.Dropped p f)) (see (DropsFuture f) q2)
      (sees out q2 (places_so (slice_set w.inside f false) told_last q2 (logs base q2 two (event.LastWaker p f) refl)) (event.Dropped p f)
      (DropsFuture f) refl) refl in
      let here : world.task w4 f ≡ s2 = get_or-set_same w.tasks f s2 blank at in
      let world_is : without_awaiter f w4 ≡ log out (event.Dropped p f) =
      ap (λ (s : State). put_awaiter (world.put w4 f (record s { awaiter = false })) f None) here
      ∙ ap (λ ts. record (log out (event.Dropped p f)) { tasks = ts }) (set_twice w.tasks f s2 s3) in
      let z : Plain Output Waker = dropping x in
      let y : Future Output Waker = with_task (left_task t) x in
      let n : AbstractTask Output Waker = record (task f z) { awaiter = None } in
      let plain_is : unawaited f z ≡ record (see (DropsFuture f) q2) { inside = code } =
      put_is f n z y (set_same q.futures f y x there)
      ∙ (ap (λ fs. record z { futures = fs }) (set_twice q.futures f y (with_task n y))
      ∙ ap (λ (t : AbstractTask Output Waker). record z { futures = slice_set q.futures f (with_task (record t { awaiter = None }) x) })
      (task_put f (left_task t) q x there)) in
      subst (λ w. Follows w (unawaited f z)) (sym world_is) (subst (Follows (log out (event.Dropped p f))) (sym plain_is) three)

  forgotten_so : s.closed ≡ false → s.scheduled ≡ false → moves.is_last s ≡ true → (x : Future Output Waker)
      → slice_get q.futures f ≡ Some x → IsForgotten w4 f (dropping x)
  forgotten_so open_still unwoken last_one x there =
      let here : world.task w4 f ≡ s2 = get_or-set_same w.tasks f s2 blank is.known in
      let its_task : task f (dropping x) ≡ told (left_task t) = task_put f (left_task t) q x there in
      record {
        known = subst (λ n. f < n) (sym (length_set w.tasks f s2)) is.known;
        entered = is.entered;
        spent = ap (λ (s : State). s.references) here;
        unheld = ap (λ (s : State). s.handle) here ∙ unheld_last (s.references == 1) s.handle last_one;
        finished = ap (λ (t : AbstractTask Output Waker). t.phase) its_task;
        closed = ap (λ (t : AbstractTask Output Waker). t.closed) its_task;
        awaited =
            ap (λ (t : AbstractTask Output Waker). t.awaiter) its_task
            ∙ ap (λ (t : AbstractTask Output Waker). t.awaiter) (follows.tasks f is.known);
        follows = alone_so open_still unwoken last_one x there;
      }

  forgets_end : Way p end w (op.Move move.EndPending f ∷ os)
      → Forgets taker final below f q end (does wakes c Pends (record q { inside = Poll f taker ∷ q.inside }))
  forgets_end way =
      by s.closed s.scheduled (moves.is_last s) refl refl refl is.last (pending_is s aw is.polled)
      (next p end rests (op.Move move.EndPending f) w os refl way).way
    where
      by : (x y z : Bool) → s.closed ≡ x → s.scheduled ≡ y → moves.is_last s ≡ z → (not x && (not y && z)) ≡ true
          → abstract.pending_end (view s aw) ≡ end_of x y z
          → Way p end (world.put (told_of (not x && (not y && z)) false move.EndPending p w f) f
          (moves.end_pending_by x y z s).state)
          (owed_ops (among f (told_of (not x && (not y && z)) false move.EndPending p w f).table) f (moves.end_pending_by x y z s).owed
          ++ os)
          → Forgets taker final below f q end (does wakes c Pends (record q { inside = Poll f taker ∷ q.inside }))
      by true y z closed woken last_one last ending way = absurd cc
      by false true z closed woken last_one last ending way = absurd cc
      by false false false closed woken last_one last ending way = absurd cc
      by false false true open_still unwoken last_one last ending way =
          let w2 = world.put (log w (event.LastWaker p f)) f s2 in
          let more = op.Handle (handle_op.LetGo f) ∷ os in
          let now : Way p end w2 (op.Table (table_op.TakeToDrop f) ∷ more) =
          subst (λ b. Way p end w2 (owed_ops b f (moves.end_pending_by false false true s).owed ++ os)) is.entered way in
          let two = next p end rests (op.Table (table_op.TakeToDrop f)) w2 more refl now in
          let w3 = record w2 { inside = slice_set w.inside f false } in
          let three = next p end rests (op.User (user_op.BeginDrop f)) w3 more refl two.way in
          let last_is =
          stops_at p below under end rests (op.User (user_op.Drop f) ∷ op.Table (table_op.LeaveTable f) ∷ more) w4 refl three.way in
          let x = get_below q.futures f (subst (λ n. f < n) follows.many is.known) in
          let z_is : plain_takes.dropping wakes c f Closed taker (put f (left_task t) q) ≡ dropping x.0 =
          ap (λ q2. plain_takes.dropping wakes c f Closed taker q2) (put_is f (left_task t) q x.0 x.1) in
          subst (λ e. Forgets taker final below f q end (plain_calls.pending_by wakes c e f taker q))
          (sym (ap abstract.pending_end (follows.tasks f is.known) ∙ ending))
          (subst (Forgets taker final below f q end) (sym z_is)
          (subst (λ (e : Done). Forgets taker final below f q e (dropping x.0)) last_is
          (record {
            stops = record { left = refl; inside = refl; forgotten = forgotten_so open_still unwoken last_one x.0 x.1 };
            stay = record { runs = refl; kept = λ k. refl; lying = refl };
          })))

pub forgets_by : (p : ℕ) (below : List Op) (w : World) (q : Plain Output Waker) → is_resting below ≡ true → Follows w q
    → (taker : Taker Waker) (final : Op) (f : ℕ) → IsLastPoll w f → (c : Choice) (hints : List Hint)
    → HasAll p hints (pended p f final below w) → is_resting (alone p hints (pended p f final below w)).next ≡ true
    → Forgets taker final below f q (alone p hints (pended p f final below w))
    (does wakes c Pends (record q { inside = Poll f taker ∷ q.inside }))
forgets_by p below w q under follows taker final f is c hints has rests =
    let w0 = log w (event.Answered p f answer.Pending) in
    let os = final ∷ below in
    let end = alone p hints (done w0 (op.Table (table_op.PutBack f) ∷ os)) in
    let start : Way p end w0 (op.Table (table_op.PutBack f) ∷ os) = record { hints = hints; has = has; is = refl } in
    let step = next p end rests (op.Table (table_op.PutBack f)) w0 os refl start in
    let w1 = record w0 { inside = slice_set w.inside f true } in
    let follows1 : Follows w1 q =
    places_so (slice_set w.inside f true) w0 q (logs w q follows (event.Answered p f answer.Pending) refl) in
    forgets_end p below under end rests taker final c f w1 q follows1
    (record { known = is.known; polled = is.polled; entered = is.entered; last = is.last }) step.way

pub forgets_so : (p : ℕ) (here : Option Waker) (below : List Op) (w : World) (q : Plain Output Waker) → is_resting below ≡ true
    → Follows w q → ForgetsAlikeInTake p here below w q
forgets_so p here below w q under follows taker final f is c hints has rests =
    (forgets_by p below w q under follows taker final f is c hints has rests).stops

-- that its future is dropped is nothing to who awaits a task
module _ (f : ℕ) (q : Plain Output Waker) (x : Future Output Waker) (there : slice_get q.futures f ≡ Some x) where
  marked_is : marked f q ≡ gone_at f x q
  marked_is = ap (λ (o : Option (Future Output Waker)). on o (λ x p. gone_at f x p) q) there

  marked_task : task f (marked f q) ≡ task f q
  marked_task = ap (task f) marked_is ∙ gone_task f f q x there

  marked_unawaited : marked f (unawaited f q) ≡ unawaited f (marked f q)
  marked_unawaited =
      let n : AbstractTask Output Waker = record (task f q) { awaiter = None } in
      let y : Future Output Waker = with_task n x in
      ap (marked f) (put_is f n q x there)
      ∙ (ap (λ (o : Option (Future Output Waker)). on o (λ x p. gone_at f x p) (put_at f n x q)) (set_same q.futures f y x there)
      ∙ (ap (λ fs. record q { futures = fs }) (set_twice q.futures f y (gone y))
      ∙ sym (ap (λ t. put f (record t { awaiter = None }) (marked f q)) marked_task
      ∙ (ap (put f n) marked_is
      ∙ (put_is f n (gone_at f x q) (gone x) (set_same q.futures f (gone x) x there)
      ∙ ap (λ fs. record q { futures = fs }) (set_twice q.futures f (gone x) (with_task n (gone x))))))))

-- nor to the code in which calls stand
marked_inside : (f : ℕ) (q : Plain Output Waker) → (marked f q).inside ≡ q.inside
marked_inside f q = by (slice_get q.futures f)
  where
    by : (o : Option (Future Output Waker)) → (on o (λ x p. gone_at f x p) q).inside ≡ q.inside
    by None = refl
    by (Some x) = refl

module _ (taker : Taker Waker) (final : Op) (p f : ℕ) (below : List Op) (w : World) (q : Plain Output Waker) (c : Choice)
    (is : IsForgotten w f q) (many : length q.lying ≤ c.tells)
    (end : Done) (rests : is_resting end.next ≡ true) where
  abbrev more : Plain Output Waker → Plain Output Waker
  more = tell wakes c

  abbrev w1 : World
  w1 = record w { table = without f w.table }

  its_place : (x : Future Output Waker) × (slice_get q.futures f ≡ Some x)
  its_place =
      let there : f < length (unawaited f q).futures =
      subst (λ n. f < n) is.follows.many
      (subst (λ n. f < n) (sym (length_set w.tasks f (record (world.task w f) { awaiter = false }))) is.known) in
      get_below q.futures f (subst (λ n. f < n) (long (record (task f q) { awaiter = None })) there)
    where
      long : (n : AbstractTask Output Waker) → length (put f n q).futures ≡ length q.futures
      long n = by (slice_get q.futures f)
        where
          by : (o : Option (Future Output Waker)) → length (on o (λ x p. put_at f n x p) q).futures ≡ length q.futures
          by None = refl
          by (Some x) = length_set q.futures f (with_task n x)

  abbrev m : Plain Output Waker
  m = marked f q

  -- who awaits it goes
  abbrev let_alone : Plain Output Waker
  let_alone = on (waker_in (awaiter_of w f)) (let_go wakes more) (unawaited f m)

  abbrev its : AbstractTask Output Waker
  its = task f q

  -- whatever it chooses then
  abbrev ended_as : Choice → Plain Output Waker → Plain Output Waker
  ended_as d q = plain_takes.ended wakes d f (plain_takes.left_by wakes d Closed (task f q)) (Some taker) q

  abbrev nexts : Choice → Option Waker → AbstractTask Output Waker → Plain Output Waker
  nexts d a n = plain_takes.next wakes d taker (on a (let_go wakes more) (put f n m))

  abbrev ends_with : Choice → Plain Output Waker
  ends_with d = does wakes d Ends (record q { inside = Drop f Closed taker ∷ q.inside })

  ends_as : w.is_static ≡ true → (d : Choice) → ends_with (telling c.tells d)
      ≡ plain_takes.next wakes (telling c.tells d) taker let_alone
  ends_as static d =
      let x = its_place in
      let kind : m.is_static ≡ true =
      ap (λ (q : Plain Output Waker). q.is_static) (marked_is f q x.0 x.1)
      ∙ (sym (put_by (λ p. p.is_static) f (record its { awaiter = None }) q (λ fs. refl)) ∙ (sym is.follows.kind ∙ static)) in
      let e : Choice = telling c.tells d in
      ap (λ b. ended_as e (if b then m else release wakes more f m)) kind
      ∙ (ap (λ t. plain_takes.ended wakes e f (plain_takes.left_by wakes e Closed t) (Some taker) m) (marked_task f q x.0 x.1)
      ∙ (ap (λ phase. plain_takes.ended wakes e f (finish_by phase its) (Some taker) m) is.finished
      ∙ (ap (λ phase. nexts e its.awaiter (record its { phase = phase; closed = true; awaiter = None })) (sym is.finished)
      ∙ (ap (λ b. nexts e its.awaiter (record its { closed = b; awaiter = None })) (sym is.closed)
      ∙ (ap (λ a. nexts e a (record its { awaiter = None })) is.awaited
      ∙ ap (λ t. nexts e (waker_in (awaiter_of w f)) (record t { awaiter = None })) (sym (marked_task f q x.0 x.1)))))))

  -- and so it is behind that
  abbrev behind_as : Choice → Plain Output Waker → Option (Plain Output Waker)
  behind_as d q = let l = plain_takes.left_by wakes d Closed (task f q) in behind_out wakes d l (put f l.task q)

  abbrev behinds : Choice → Option Waker → AbstractTask Output Waker → Option (Plain Output Waker)
  behinds d a n = Some (on a (let_go wakes more) (put f n m))

  abbrev behind_with : Choice → Option (Plain Output Waker)
  behind_with d = behind_drop wakes d f Closed q

  behind_is : w.is_static ≡ true → (d : Choice) → behind_with (telling c.tells d) ≡ Some let_alone
  behind_is static d =
      let x = its_place in
      let kind : m.is_static ≡ true =
      ap (λ (q : Plain Output Waker). q.is_static) (marked_is f q x.0 x.1)
      ∙ (sym (put_by (λ p. p.is_static) f (record its { awaiter = None }) q (λ fs. refl)) ∙ (sym is.follows.kind ∙ static)) in
      let e : Choice = telling c.tells d in
      let by : AbstractTask Output Waker → Option (Plain Output Waker) = λ t.
      let l = plain_takes.left_by wakes e Closed t in behind_out wakes e l (put f l.task m) in
      ap (λ b. behind_as e (if b then m else release wakes more f m)) kind
      ∙ (ap (λ t. by t) (marked_task f q x.0 x.1)
      ∙ (ap (λ phase. let l = finish_by phase its in behind_out wakes e l (put f l.task m)) is.finished
      ∙ (ap (λ phase. behinds e its.awaiter (record its { phase = phase; closed = true; awaiter = None })) (sym is.finished)
      ∙ (ap (λ b. behinds e its.awaiter (record its { closed = b; awaiter = None })) (sym is.closed)
      ∙ (ap (λ a. behinds e a (record its { awaiter = None })) is.awaited
      ∙ ap (λ t. behinds e (waker_in (awaiter_of w f)) (record t { awaiter = None })) (sym (marked_task f q x.0 x.1)))))))

  pub goes : Way p end w (op.Table (table_op.LeaveTable f) ∷ op.Handle (handle_op.LetGo f) ∷ final ∷ below)
      → Passes p taker final below q c.tells end ends_with behind_with
  goes way =
      by w.is_static refl
      (subst (λ b. Way p end (leave_by b w f).world ((leave_by b w f).next ++ os)) is.entered
      (next p end rests (op.Table (table_op.LeaveTable f)) w os refl way).way)
    where
      os : List Op
      os = op.Handle (handle_op.LetGo f) ∷ final ∷ below

      by : (b : Bool) → w.is_static ≡ b → Way p end w1 (entry_goes b f ++ os) → Passes p taker final below q c.tells end ends_with
          behind_with
      by false owned way =
          let held : token (world.task w f) < (world.task w f).references =
          (next p end rests (op.Move move.Release f) w1 os refl way).has.1 in
          absurd (omega (arith, held, is.spent))
      by true static way =
          let x = its_place in
          let step = next p end rests (op.Handle (handle_op.LetGo f)) w1 (final ∷ below) refl way in
          let w2 = without_awaiter f w1 in
          let now : Way p end w2 (acts.let_go (awaiter_of w f) ++ (final ∷ below)) =
          subst (λ b. Way p end (let_go_by b w1 f).world ((let_go_by b w1 f).next ++ (final ∷ below))) is.unheld step.way in
          let k =
          marks f (without_awaiter f w) (unawaited f q) is.follows
          (subst (λ n. f < n) (sym (length_set w.tasks f (record (world.task w f) { awaiter = false }))) is.known) in
          let follows2 : Follows w2 (unawaited f m) = subst (Follows w2) (marked_unawaited f q x.0 x.1) k.follows in
          let fit : length (unawaited f m).lying ≤ c.tells =
          subst (λ ls. length ls ≤ c.tells)
          (sym (put_lying f (record (task f m) { awaiter = None }) m
          ∙ ap (λ (q : Plain Output Waker). q.lying) (marked_is f q x.0 x.1))) many in
          let fits : Plain Output Waker → Type 0 = λ q. length q.lying ≤ c.tells in
          record {
            before = let_alone;
            so =
                lets_go_so p end rests more fits (loudly p end rests c) (awaiter_of w f) w2 (final ∷ below) (unawaited f m) follows2 fit
                now;
            fit = let_go_fits p end rests more fits (loudly p end rests c) (waker_in (awaiter_of w f)) (unawaited f m) fit;
            inside =
                goes_inside c (waker_in (awaiter_of w f)) (unawaited f m)
                ∙ (put_by (λ p. p.inside) f (record (task f m) { awaiter = None }) m (λ fs. refl) ∙ marked_inside f q);
            stay =
                stay_on q m let_alone (marked_stays f q)
                (stay_on m (unawaited f m) let_alone (put_stays f (record (task f m) { awaiter = None }) m)
                (goes_stays c (waker_in (awaiter_of w f)) (unawaited f m)));
            is = ends_as static;
            at = behind_is static;
          }

abbrev pub forgets_with : (taker : Taker Waker) (f : ℕ) → Plain Output Waker → Choice → Plain Output Waker
forgets_with taker f q d = does wakes d Ends (record q { inside = Drop f Closed taker ∷ q.inside })

pub forgotten_by : (taker : Taker Waker) (final : Op) (p f : ℕ) (below : List Op) (w : World) (q : Plain Output Waker) (c : Choice)
    → IsForgotten w f q → length q.lying ≤ c.tells → (hints : List Hint) → HasAll p hints (upon below (forgotten final p f w))
    → is_resting (alone p hints (upon below (forgotten final p f w))).next ≡ true
    → Passes p taker final below q c.tells (alone p hints (upon below (forgotten final p f w))) (forgets_with taker f q)
    (λ d. behind_drop wakes d f Closed q)
forgotten_by taker final p f below w q c is many hints has rests =
    goes taker final p f below w q c is many
    (alone p hints (done w (op.Table (table_op.LeaveTable f) ∷ op.Handle (handle_op.LetGo f) ∷ final ∷ below))) rests
    (record { hints = hints; has = has; is = refl })

pub forgotten_goes : ForgottenGoesAlike
forgotten_goes taker final p f below w q c it under is many hints unit has rests =
    let e =
    passes_end p below under (alone p hints (upon below (forgotten final p f w))) rests taker final q it c (forgets_with taker f q)
    (λ d. behind_drop wakes d f Closed q) (forgotten_by taker final p f below w q c is many hints has rests) in
    (e.0, e.1)
