-- Whole calls, from their beginning to their answer: wakes, the drop of a waker, and the question whether nothing is left.
use Rattle.std.proofs.Common.{◌≡◌, ℕ, ◌+◌, ◌≤◌, ◌<◌, ◌++◌, ◌&&◌, not, Bool, true, false, List, [], ◌∷◌, length, nat_lt, Option, Some}
use Rattle.std.proofs.Common.{if◌then◌else◌}
use Rattle.std.proofs.Common.{refl, sym, ap, subst, ◌∙◌, arith}
use Rattle.executor_parts.specs.declared.mark.Mark.{Mark}
use Rattle.executor_parts.specs.declared.mark.Mark.TheVariants.{Plain as PlainMark, Urgent}
use Rattle.task_moves.specs.declared.moves.owed.Move.TheVariants as move
use Rattle.task_moves.specs.declared.moves.state.State.{State}
use Rattle.task_moves.specs.AbstractTask as abstract
use Rattle.task_moves.specs.LocalTask.{told, token}
use Rattle.executor_model.specs.declared.call.Call.{Call}
use Rattle.executor_model.specs.declared.call.Call.TheVariants as call
use Rattle.executor_model.specs.declared.call.Reply.{Reply}
use Rattle.executor_model.specs.declared.call.Reply.TheVariants as reply
use Rattle.executor_model.specs.declared.event.Event.TheVariants as event
use Rattle.executor_model.specs.declared.kind.Kind.{Kind}
use Rattle.executor_model.specs.declared.op.Hold.{Hold}
use Rattle.executor_model.specs.declared.op.Hold.TheVariants as hold
use Rattle.executor_model.specs.declared.op.Op.{Op}
use Rattle.executor_model.specs.declared.op.Op.TheVariants as op
use Rattle.executor_model.specs.declared.op.TableOp.TheVariants as table_op
use Rattle.executor_model.specs.declared.op.TickOrRun.{TickOrRun}
use Rattle.executor_model.specs.declared.op.TickOrRun.TheVariants as tick_or_run
use Rattle.executor_model.specs.declared.op.Waker.{Waker}
use Rattle.executor_model.specs.declared.step.Hint.{Hint}
use Rattle.executor_model.specs.declared.op.WakerOp.TheVariants as waker_op
use Rattle.executor_model.specs.Acts.{copy_by, emptiness, enter_by, is_refused}
use Rattle.executor_model.specs.Doing.{act}
use Rattle.executor_model.specs.SleepersAgree.{sleeps}
use Rattle.executor_model.specs.Steps.{is_static_kind, start, used_up, waits, with_future}
use Rattle.executor_model.specs.World.{World, Done, done, awaiter_of, log, queue_of}
use Rattle.executor_model.specs.World as world
use Rattle.plain_scheduler.specs.State.{Answer, Answers, Choice, Full, Plain, Done as DoneAnswer, Made as MadeAnswer, NoMemory}
use Rattle.plain_scheduler.specs.State.{Yes, No}
use Rattle.plain_scheduler.specs.Moves.{answers, appended, put, task, tell}
use Rattle.plain_scheduler.specs.Moves as moves
use Rattle.plain_scheduler.specs.Calls.{does, cancel, is_granted, is_none, new, entered as entered_plain, Copy}
use Rattle.plain_scheduler.specs.Calls.{Cancel, Detach, DropHandle, IsEmpty, Spawn}
use Rattle.machine_roads.specs.View.{Output, view, waker_in, wakes}
use Rattle.machine_roads.specs.Seeing.{answer_of, shown}
use Rattle.machine_roads.specs.Road.{Follows, place_in}
use Rattle.machine_roads.specs.Alone.{alone, answered_by, is_outside, is_resting, one_by}
use Rattle.machine_roads.specs.Alike.{refuses_first, CancelsAlike, CopiesAlike, DetachesAlike, EmptyAlike}
use Rattle.machine_roads.specs.Alike.{HandleGoesAlike, KeepsAlike, LeavesAlike, LeavesAlikeIf, SpawnsAlike, UsesAlike}
use Rattle.machine_roads.specs.Alike.{WakesAlike, WakesItselfAlike, WakerGoesAlike}
use Rattle.machine_roads.proofs.Stepping.{Way, next}
use Rattle.machine_roads.proofs.Changing.{logs, puts, sees}
use Rattle.machine_roads.proofs.Lists.{clash}
use Rattle.machine_roads.proofs.Moving.{copies_alike}
use Rattle.machine_roads.proofs.Moved.{queued, uses_so, wakes_so, releases_so}
use Rattle.machine_roads.proofs.Exchanging.{loudly}
use Rattle.machine_roads.proofs.Cancelling.{cancel_fits, cancel_outputs, cancels_so}
use Rattle.machine_roads.proofs.Detaching.{detached_is, detaches_so}
use Rattle.machine_roads.proofs.Spawning.{entered_world, enters}
use Rattle.machine_roads.proofs.Unseen.{kept_so}

pub begin_alike : (limit : ℕ) (kind : Kind) (parties : ℕ)
    → Follows (start limit kind parties).world (new limit (is_static_kind kind))
begin_alike limit kind parties = record {
  limit = refl;
  kind = refl;
  many = refl;
  places = refl;
  marked = refl;
  tasks = λ f below. absurd (omega (arith, below));
  stored = λ f below. absurd (omega (arith, below));
  marks = λ f. refl;
  calm = λ f below. absurd (omega (arith, below));
  table = refl;
  common = common;
  kept = λ r. refl;
  wakers = refl;
  count = refl;
  flag = refl;
  asleep = asleep;
  numbered = tt;
  runs = refl;
  waking = refl;
  seen = refl;
}
  where
    asleep : (x : TickOrRun) → 0 ≡ sleeps (place_in [] [] x)
    asleep (tick_or_run.Tick t) = refl
    asleep (tick_or_run.Run r) = refl

    common : (m : Mark) → (queue_of (start limit kind parties).world m).items ≡ []
    common PlainMark = refl
    common Urgent = refl

rests_by : (p : ℕ) (h : Hint) (o : Op) (w : World) (os : List Op) (a b : Bool) → (a && not b) ≡ true
    → (if a then done w (answered_by b o os) else done (act p h o w).world ((act p h o w).next ++ os)) ≡ done w (o ∷ os)
rests_by p h o w os true false is = refl
rests_by p h o w os true true is = absurd cc
rests_by p h o w os false b is = absurd cc

one_is : (p : ℕ) (h : Hint) (o : Op) (w : World) (os : List Op) (a : Bool)
    → one_by a p h o w os
    ≡ (if a then done w (answered_by (is_outside o) o os) else done (act p h o w).world ((act p h o w).next ++ os))
one_is p h o w os true = refl
one_is p h o w os false = refl

-- with nothing to do, and in user code, nothing is done
pub idles : (p : ℕ) (hs : List Hint) (os : List Op) (w : World) → is_resting os ≡ true → alone p hs (done w os) ≡ done w os
idles p [] os w under = refl
idles p (h ∷ hs) [] w under = idles p hs [] w under
idles p (h ∷ hs) (o ∷ os) w under =
    ap (alone p hs) (one_is p h o w os (waits o) ∙ rests_by p h o w os (waits o) (is_outside o) under)
    ∙ idles p hs (o ∷ os) w under

module _ (p : ℕ) (below : List Op) (under : is_resting below ≡ true) where
  module _ (end : Done) (rests : is_resting end.next ≡ true) where
    abbrev Leaves : Plain Output Waker → Type 0
    Leaves q = (end.next ≡ below) × Follows end.world q

    pub ends : (w : World) (q : Plain Output Waker) (r : Reply) (held : Hold) (a : Answer Output)
        → Answers (answer_of r) ≡ shown (Answers a) → Follows w q → Way p end w (op.End r held ∷ below) → Leaves (answers a q)
    ends w q r held a is follows way =
        let e = event.CallEnded p r in
        let s = next p end rests (op.End r held) w below refl way in
        let last : Way p end (log w e) below = s.way in
        let there : done (log w e) below ≡ end = sym (idles p last.hints below (log w e) under) ∙ last.is in
        subst (λ (d : Done). (d.next ≡ below) × Follows d.world (answers a q)) there
        (refl, sees w q follows e (Answers a) (ap (λ x. x ∷ []) is))

  -- from the beginning of a call
  leaves : (w : World) (os : List Op) (q : Plain Output Waker)
      → ((end : Done) → is_resting end.next ≡ true → Way p end w (os ++ below) → (end.next ≡ below) × Follows end.world q)
      → LeavesAlike p below (done w os) q
  leaves w os q so hints any has rests =
      so (alone p hints (done w (os ++ below))) rests (record { hints = hints; has = has; is = refl })

  module _ (here : Option Waker) (w : World) (q : Plain Output Waker) (follows : Follows w q) where
    abbrev begun_in : Call → World
    begun_in c = log w (event.CallBegun p c)

    begun_follows : (c : Call) → Follows (begun_in c) q
    begun_follows c = logs w q follows (event.CallBegun p c) refl

    pub uses_alike : UsesAlike p here below w q
    uses_alike c k f is many =
        let w' = begun_in (call.Wake k) in
        let os = op.Move move.Wake f ∷ op.End reply.Done hold.Nothing ∷ [] in
        subst
        (λ o. LeavesAlike p below (with_future w' o (λ f. done (used_up w' k)
        (op.Move move.Wake f ∷ op.End reply.Done hold.Nothing ∷ []))) (answers DoneAnswer (moves.used wakes (tell wakes c) f q)))
        (sym is)
        (leaves (used_up w' k) os (answers DoneAnswer (moves.used wakes (tell wakes c) f q)) (λ end rests way.
        let s = next p end rests (op.Move move.Wake f) (used_up w' k) (op.End reply.Done hold.Nothing ∷ below) refl way in
        let t = uses_so p end rests (tell wakes c) (λ q. length q.lying ≤ c.tells) (loudly p end rests c) f (used_up w' k)
        (op.End reply.Done hold.Nothing ∷ below) q (kept_so (used_up w' k).wakers w' q (begun_follows (call.Wake k))) many s.has.0 s.way in
        ends end rests t.world (moves.used wakes (tell wakes c) f q) reply.Done hold.Nothing DoneAnswer refl t.follows t.way))

    wakes_by : (c : Choice) (f : ℕ) (held : Hold) (e : Call) → length q.lying ≤ c.tells
        → LeavesAlike p below (done (begun_in e) (op.Move move.WakeByReference f ∷ op.End reply.Done held ∷ []))
        (answers DoneAnswer (moves.wake wakes (tell wakes c) f q))
    wakes_by c f held e many =
        let w' = begun_in e in
        leaves w' (op.Move move.WakeByReference f ∷ op.End reply.Done held ∷ [])
        (answers DoneAnswer (moves.wake wakes (tell wakes c) f q)) (λ end rests way.
        let s = next p end rests (op.Move move.WakeByReference f) w' (op.End reply.Done held ∷ below) refl way in
        let t = wakes_so p end rests (tell wakes c) (λ q. length q.lying ≤ c.tells) (loudly p end rests c) f w'
        (op.End reply.Done held ∷ below) q (begun_follows e) many s.has.0 s.way in
        ends end rests t.world (moves.wake wakes (tell wakes c) f q) reply.Done held DoneAnswer refl t.follows t.way)

    pub wakes_kept : WakesAlike p here below w q
    wakes_kept c k f is many =
        let w' = begun_in (call.WakeByRef k) in
        subst
        (λ o. LeavesAlike p below (with_future w' o (λ f. done w'
        (op.Move move.WakeByReference f ∷ op.End reply.Done (hold.Waker k) ∷ [])))
        (answers DoneAnswer (moves.wake wakes (tell wakes c) f q)))
        (sym is)
        (wakes_by c f (hold.Waker k) (call.WakeByRef k) many)

    pub wakes_itself : WakesItselfAlike p here below w q
    wakes_itself c f is many =
        let w' = begun_in call.WakeSelf in
        subst
        (λ o. LeavesAlike p below (with_future w' o (λ f. done w'
        (op.Move move.WakeByReference f ∷ op.End reply.Done hold.Nothing ∷ [])))
        (answers DoneAnswer (moves.wake wakes (tell wakes c) f q)))
        (sym is)
        (wakes_by c f hold.Nothing call.WakeSelf many)

    pub waker_goes : WakerGoesAlike p here below w q
    waker_goes c k f is many =
        let w' = begun_in (call.DropWaker k) in
        let os = op.Move move.Release f ∷ op.End reply.Done hold.Nothing ∷ [] in
        subst
        (λ o. LeavesAlike p below (with_future w' o (λ f. done (used_up w' k)
        (op.Move move.Release f ∷ op.End reply.Done hold.Nothing ∷ [])))
        (answers DoneAnswer (moves.release wakes (tell wakes c) f q)))
        (sym is)
        (leaves (used_up w' k) os (answers DoneAnswer (moves.release wakes (tell wakes c) f q)) (λ end rests way.
        let t = releases_so p end rests (tell wakes c) (λ q. length q.lying ≤ c.tells) (loudly p end rests c) f (used_up w' k)
        (op.End reply.Done hold.Nothing ∷ below) q (kept_so (used_up w' k).wakers w' q (begun_follows (call.DropWaker k))) many way in
        ends end rests t.world (moves.release wakes (tell wakes c) f q) reply.Done hold.Nothing DoneAnswer refl t.follows t.way))

    -- a spawn, as the first hint says
    spawned_by : (c : Choice) (m : Mark) (end : Done) → is_resting end.next ≡ true → length q.lying ≤ c.tells
        → (room refused : Bool) → nat_lt (length w.table) w.limit ≡ room → is_granted c.refusal ≡ not refused
        → Way p end (enter_by (not room) refused m p (begun_in (call.Spawn m))).world
        ((enter_by (not room) refused m p (begun_in (call.Spawn m))).next ++ below)
        → (end.next ≡ below) × Follows end.world (does wakes c (Spawn m) q)
    spawned_by c m end rests many room refused is granted way =
        subst (λ b. (end.next ≡ below) × Follows end.world (if b then allowed (is_granted c.refusal) else answers Full q))
        (sym (ap (λ ns. nat_lt (length ns) q.limit) (sym follows.table) ∙ (ap (nat_lt (length w.table)) (sym follows.limit) ∙ is)))
        (by room refused granted way)
      where
        e : Call
        e = call.Spawn m

        allowed : Bool → Plain Output Waker
        allowed b =
            if b then answers MadeAnswer (tell wakes c (appended (length q.futures) (entered_plain wakes c m q))) else answers NoMemory q

        by : (room refused : Bool) → is_granted c.refusal ≡ not refused
            → Way p end (enter_by (not room) refused m p (begun_in e)).world
            ((enter_by (not room) refused m p (begun_in e)).next ++ below)
            → (end.next ≡ below) × Follows end.world (if room then allowed (is_granted c.refusal) else answers Full q)
        by false refused granted way = ends end rests (begun_in e) q reply.Full hold.Executor Full refl (begun_follows e) way
        by true true granted way =
            subst (λ b. (end.next ≡ below) × Follows end.world (allowed b)) (sym granted)
            (ends end rests (begun_in e) q reply.NoMemory hold.Executor NoMemory refl (begun_follows e) way)
        by true false granted way =
            let n = length w.tasks in
            let q' = entered_plain wakes c m q in
            let w' = entered_world (begun_in e) q (begun_follows e) m in
            let os = op.End reply.Made (hold.Spawned n) ∷ below in
            let t = queued p end rests (tell wakes c) (λ q. length q.lying ≤ c.tells) (loudly p end rests c) n
            (log w' (event.Accepted p n)) os q'
            (logs w' q' (enters (begun_in e) q (begun_follows e) m) (event.Accepted p n) refl) many true way in
            subst (λ b. (end.next ≡ below) × Follows end.world (allowed b)) (sym granted)
            (subst (λ k. (end.next ≡ below) × Follows end.world (answers MadeAnswer (tell wakes c (appended k q')))) follows.many
            (ends end rests t.world (tell wakes c (appended n q')) reply.Made (hold.Spawned n) MadeAnswer refl t.follows t.way))

    pub spawns : SpawnsAlike p here below w q
    spawns c m many [] granted has rests = absurd (clash refl rests)
    spawns c m many (h ∷ hs) granted has rests =
        spawned_by c m (alone p (h ∷ hs) (done (begun_in (call.Spawn m)) (op.Table (table_op.Enter m) ∷ below))) rests many
        (nat_lt (length w.table) w.limit) h.refused refl granted (record { hints = hs; has = has.1; is = refl })

    pub cancels : CancelsAlike p here below w q
    cancels c f many =
        let w' = begun_in (call.Cancel f) in
        let os = op.End reply.Done (hold.Handle f) ∷ [] in
        leaves w' (op.Move move.Cancel f ∷ os) (does wakes c (Cancel f) q) (λ end rests way.
        let s = next p end rests (op.Move move.Cancel f) w' (os ++ below) refl way in
        let t = cancels_so p end rests (tell wakes c) (λ q. length q.lying ≤ c.tells) (loudly p end rests c) f w' (os ++ below) q
        (begun_follows (call.Cancel f)) many s.has.0 s.way in
        ends end rests t.world (cancel wakes c f q) reply.Done (hold.Handle f) DoneAnswer refl t.follows t.way)

    pub detaches : DetachesAlike p here below w q
    detaches c f none many =
        let w' = begun_in (call.Detach f) in
        let os = op.End reply.Done (hold.Handle f) ∷ [] in
        leaves w' (op.Move move.Detach f ∷ os) (does wakes c (Detach f) q) (λ end rests way.
        let t = detaches_so p end rests (tell wakes c) (λ q. length q.lying ≤ c.tells) (loudly p end rests c) f w' (os ++ below) q
        (begun_follows (call.Detach f)) many none way in
        subst (λ q. (end.next ≡ below) × Follows end.world q) (sym (detached_is c f t.world q none t.follows))
        (ends end rests t.world (moves.becomes wakes (tell wakes c) f (abstract.detach (task f q)).task q) reply.Done (hold.Handle f)
        DoneAnswer refl t.follows t.way))

    pub handle_goes : HandleGoesAlike p here below w q
    handle_goes c f none many =
        let w' = begun_in (call.DropHandle f) in
        let os = op.End reply.Done (hold.Handle f) ∷ [] in
        let more = tell wakes c in
        let fits : Plain Output Waker → Type 0 = λ q. length q.lying ≤ c.tells in
        leaves w' (op.Move move.Cancel f ∷ op.Move move.Detach f ∷ os) (does wakes c (DropHandle f) q) (λ end rests way.
        let teller = loudly p end rests c in
        let start = begun_follows (call.DropHandle f) in
        let s = next p end rests (op.Move move.Cancel f) w' (op.Move move.Detach f ∷ (os ++ below)) refl way in
        let r = cancel wakes c f q in
        let one = cancels_so p end rests more fits teller f w' (op.Move move.Detach f ∷ (os ++ below)) q start many s.has.0 s.way in
        let gone = cancel_outputs p end rests more fits teller f w' (op.Move move.Detach f ∷ (os ++ below)) q start many s.has.0 none in
        let t = detaches_so p end rests more fits teller f one.world (os ++ below) r one.follows
        (cancel_fits p end rests more fits teller f w' (op.Move move.Detach f ∷ (os ++ below)) q start many s.has.0) gone one.way in
        subst (λ q. (end.next ≡ below) × Follows end.world q) (sym (detached_is c f t.world r gone t.follows))
        (ends end rests t.world (moves.becomes wakes more f (abstract.detach (task f r)).task r) reply.Done (hold.Handle f)
        DoneAnswer refl t.follows t.way))

    -- a copy, as the first hint says
    copied_by : (c : Choice) (e : Call) (f : ℕ) (held : Hold) (h : Hint) (end : Done) → is_resting end.next ≡ true
        → f < length w.tasks → token (world.task w f) ≤ (world.task w f).references → (b : Bool)
        → is_granted c.refusal ≡ not b
        → Way p end (copy_by b (begun_in e) f held).world ((copy_by b (begun_in e) f held).next ++ below)
        → (end.next ≡ below) × Follows end.world (does wakes c (Copy f) q)
    copied_by c e f held h end rests at few true is way =
        subst
        (λ b. (end.next ≡ below) × Follows end.world
        (if b then answers MadeAnswer (put f (abstract.copy (task f q)) q) else answers NoMemory q))
        (sym is)
        (ends end rests (begun_in e) q reply.NoMemory held NoMemory refl (begun_follows e) way)
    copied_by c e f held h end rests at few false is way =
        let w' = begun_in e in
        let s = world.task w f in
        let more : State = record s { references = s.references + 1 } in
        let ks = w.wakers ++ Some f ∷ [] in
        let tk : task f q ≡ view s (waker_in (awaiter_of w f)) = follows.tasks f at in
        let stored = follows.stored f at in
        subst
        (λ b. (end.next ≡ below) × Follows end.world
        (if b then answers MadeAnswer (put f (abstract.copy (task f q)) q) else answers NoMemory q))
        (sym is)
        (ends end rests (record (world.put w' f more) { wakers = ks }) (put f (abstract.copy (task f q)) q) reply.Made held MadeAnswer
        refl
        (kept_so ks (world.put w' f more) (put f (abstract.copy (task f q)) q)
        (puts w' q (begun_follows e) f at more (abstract.copy (task f q))
        (copies_alike s (waker_in (awaiter_of w f)) few ∙ ap (λ t. told (abstract.copy t)) (sym tk))
        (record { awaiter = stored.awaiter; registering = stored.registering; notifying = stored.notifying })
        (follows.calm f at)))
        way)

    copies : (c : Choice) (e : Call) (f : ℕ) (held : Hold)
        → LeavesAlikeIf (λ hints. is_granted c.refusal ≡ not (refuses_first hints (world.task w f))) p below
        (done (begun_in e) (op.Waker (waker_op.CopyWaker f held) ∷ [])) (does wakes c (Copy f) q)
    copies c e f held [] granted has rests = absurd (clash refl rests)
    copies c e f held (h ∷ hs) granted has rests =
        copied_by c e f held h (alone p (h ∷ hs) (done (begun_in e) (op.Waker (waker_op.CopyWaker f held) ∷ below))) rests has.0.0 has.0.1
        (is_refused h (world.task w f)) granted (record { hints = hs; has = has.1; is = refl })

    pub copies_kept : CopiesAlike p here below w q
    copies_kept c k f is =
        let w' = begun_in (call.Copy k) in
        subst
        (λ o. LeavesAlikeIf (λ hints. is_granted c.refusal ≡ not (refuses_first hints (world.task w f))) p below
        (with_future w' o (λ f. done w' (op.Waker (waker_op.CopyWaker f (hold.Waker k)) ∷ []))) (does wakes c (Copy f) q))
        (sym is)
        (copies c (call.Copy k) f (hold.Waker k))

    pub keeps_own : KeepsAlike p here below w q
    keeps_own c f is =
        let w' = begun_in call.Keep in
        subst
        (λ o. LeavesAlikeIf (λ hints. is_granted c.refusal ≡ not (refuses_first hints (world.task w f))) p below
        (with_future w' o (λ f. done w' (op.Waker (waker_op.CopyWaker f hold.Nothing) ∷ []))) (does wakes c (Copy f) q))
        (sym is)
        (copies c call.Keep f hold.Nothing)

    pub empty_alike : EmptyAlike p here below w q
    empty_alike c =
        let w' = begun_in call.IsEmpty in
        leaves w' (op.Table table_op.LookAtTable ∷ []) (does wakes c IsEmpty q) (λ end rests way.
        let s = next p end rests (op.Table table_op.LookAtTable) w' below refl way in
        subst (λ ns. (end.next ≡ below) × Follows end.world (answers (if is_none ns then Yes else No) q)) follows.table
        (by end rests w.table s.way))
      where
        by : (end : Done) (rests : is_resting end.next ≡ true) (ns : List ℕ)
            → Way p end (begun_in call.IsEmpty) (op.End (emptiness ns) hold.Executor ∷ below)
            → (end.next ≡ below) × Follows end.world (answers (if is_none ns then Yes else No) q)
        by end rests [] way = ends end rests (begun_in call.IsEmpty) q reply.Yes hold.Executor Yes refl (begun_follows call.IsEmpty) way
        by end rests (n ∷ ns) way =
            ends end rests (begun_in call.IsEmpty) q reply.No hold.Executor No refl (begun_follows call.IsEmpty) way
