-- In the executor's drop both queues are closed, and what stands in them is dropped, behind the drops and the wakes of the futures.
use Rattle.std.proofs.Common.{◌≡◌, ℕ, ◌-◌, ◌+◌, ◌<◌, ◌≤◌, ◌++◌, Bool, true, false, List, [], ◌∷◌, length}
use Rattle.std.proofs.Common.{Option, Some, None, is_some, slice_get, slice_set, refl, sym, ap, subst, ◌∙◌, arith}
use Rattle.std.proofs.Common.{drop}
use Rattle.std.specs.Prelude.{slice_index_or}
use Rattle.std.proofs.lemmas.List.{get_or-set_same}
use Rattle.queue_steps.specs.ClosableQueue.{shut, taken}
use Rattle.executor_parts.specs.declared.mark.Mark.{Mark}
use Rattle.executor_parts.specs.declared.mark.Mark.TheVariants.{Plain as PlainMark, Urgent}
use Rattle.executor_parts.specs.Marks.{other}
use Rattle.task_moves.specs.declared.moves.owed.Move.TheVariants as move
use Rattle.task_moves.specs.declared.moves.state.State.{State}
use Rattle.task_moves.specs.AbstractTask as abstract
use Rattle.task_moves.specs.AbstractTask.{AbstractTask}
use Rattle.task_moves.specs.LocalTask.{told, token}
use Rattle.task_moves.specs.Moves as moves
use Rattle.executor_model.specs.declared.call.Reply.TheVariants as reply
use Rattle.executor_model.specs.declared.event.Event.TheVariants as event
use Rattle.executor_model.specs.declared.op.Awaiter.{Awaiter}
use Rattle.executor_model.specs.declared.op.ClosingOp.TheVariants as closing_op
use Rattle.executor_model.specs.declared.op.Hold.TheVariants as hold
use Rattle.executor_model.specs.declared.op.Op.{Op}
use Rattle.executor_model.specs.declared.op.Op.TheVariants as op
use Rattle.executor_model.specs.declared.op.Polled.TheVariants as of
use Rattle.executor_model.specs.declared.op.Waker.{Waker}
use Rattle.executor_model.specs.declared.op.Waker.TheVariants.{Task, Outside}
use Rattle.executor_model.specs.declared.op.WakerOp.TheVariants as waker_op
use Rattle.executor_model.specs.Acts.{call_waker, closing_ops, drain_by, move_task, told as told_ops}
use Rattle.executor_model.specs.Carried.{owed_ops}
use Rattle.executor_model.specs.Good.{IsKnownWaker}
use Rattle.executor_model.specs.Queues.{Queues, queue_in}
use Rattle.executor_model.specs.World.{World, Done, done, among, awaiter_of, blank, log, own_of, put_awaiter, put_queue, queue_of}
use Rattle.executor_model.specs.World as world
use Rattle.plain_scheduler.specs.State.{Calls, Choice, Close, Due, Future, Plain, Done as DoneAnswer}
use Rattle.plain_scheduler.specs.Lists.{each, on, without}
use Rattle.plain_scheduler.specs.Moves.{answers, called, is_common, is_kept, put, task}
use Rattle.plain_scheduler.specs.Calls.{close, swept}
use Rattle.machine_roads.specs.View.{Output, view, waker_in, wakes}
use Rattle.machine_roads.specs.Moving.{IsQueued}
use Rattle.machine_roads.specs.Road.{Follows, IsStored, futures_in, waking_in}
use Rattle.machine_roads.specs.Alone.{is_resting, HasIn}
use Rattle.machine_roads.specs.Lone.{NoneWaits, waits_for}
use Rattle.machine_roads.proofs.Cancelling.{emptied, took_of}
use Rattle.machine_roads.proofs.Changing.{logs, puts, sees, settles}
use Rattle.machine_roads.proofs.Ending.{gave_up, gave_up_owes}
use Rattle.machine_roads.proofs.Leaking.{freed_inside}
use Rattle.machine_roads.proofs.Lists.{clash, get_below, length_set, set_twice}
use Rattle.machine_roads.proofs.Moved.{moved_so}
use Rattle.machine_roads.proofs.Moving.{state}
use Rattle.machine_roads.proofs.Nobody.{WaitAmong, call_so, called_calmly, closed_due}
use Rattle.machine_roads.proofs.Nobody.{closed_none, closed_so, each_closed, each_due, each_freed, each_waits}
use Rattle.machine_roads.proofs.Nobody.{freed_so, last_none, last_of, put_waits, swept_calmly, used_calmly, used_so}
use Rattle.machine_roads.proofs.Puts.{put_is, task_is, task_put}
use Rattle.machine_roads.proofs.Rousing.{AreOpen, ends_in, frees_in, wakes_on}
use Rattle.machine_roads.proofs.Slowly.{used_slowly}
use Rattle.machine_roads.proofs.Stepping.{WayOf, next_of, past_outside_of}
use Rattle.machine_roads.proofs.Trying.{takes_first}
use Rattle.machine_roads.proofs.Unseen.{stands_in}
use Rattle.machine_roads.proofs.Used.{called_past, is_still, lower, lowered_is, lowers, put_twice}

-- at last the call is answered
abbrev pub ending : List Op
ending = op.End reply.Done hold.Nothing ∷ []

-- other queues with the same futures in them
pub lines_so : (qs : Queues) (ds : List Due) (w : World) (q : Plain Output Waker) → Follows w q
    → ((m : Mark) → (queue_in m qs).items ≡ futures_in (is_common m) ds) → ((r : ℕ) → own_of w r ≡ futures_in (is_kept r) ds)
    → Follows (record w { queues = qs }) (record q { due = ds })
lines_so qs ds w q r common kept = record {
  limit = r.limit;
  kind = r.kind;
  many = r.many;
  places = r.places;
  marked = r.marked;
  tasks = r.tasks;
  stored = r.stored;
  marks = r.marks;
  calm = r.calm;
  table = r.table;
  common = common;
  kept = kept;
  wakers = r.wakers;
  count = r.count;
  flag = r.flag;
  asleep = r.asleep;
  numbered = r.numbered;
  runs = r.runs;
  waking = r.waking;
  seen = r.seen;
}

-- a Runnable that is dropped, and the run's end behind it
raised_less : (k : ℕ) → 1 ≤ k → k - 0 ≡ k - 1 + 1
raised_less k some = omega (arith, some)

abbrev raised : AbstractTask Output Waker → AbstractTask Output Waker
raised t = record t { wakers = t.wakers + 1 }

abbrev settled_of : State → State
settled_of s = (moves.settle_closed (moves.drop_runnable s).state).state

settled_view : (o : Option Waker) (s r d x h a g n : Bool) (k : ℕ) → IsQueued (state s r d x h a g n k)
    → view (settled_of (state s r d x h a g n k)) None
    ≡ told (raised (abstract.drop_runnable (view (state s r d x h a g n k) o)).task)
settled_view o true false false true h a g n k is =
    ap (λ m. record (view (settled_of (state true false false true h a g n k)) None) { wakers = m }) (raised_less k is.counted)
settled_view o true false false false h a g n k is =
    ap (λ m. record (view (settled_of (state true false false false h a g n k)) None) { wakers = m }) (raised_less k is.counted)
settled_view o false r d x h a g n k is = let no : false ≡ true = is.scheduled in absurd cc
settled_view o true true d x h a g n k is = let no : true ≡ false = is.running in absurd cc
settled_view o true false true x h a g n k is = let no : true ≡ false = is.completed in absurd cc

less : (k t : ℕ) → k - 1 - t ≡ k - t - 1
less k t = omega arith

module _ (p : ℕ) (end : Done) (rests : is_resting end.next ≡ true) where
  abbrev Left : World → List Op → Type 0
  Left = WayOf HasIn p end

  -- what is left of the queues, of what the runs keep and of the table
  pub record Kept (w : World) (os : List Op) (q : Plain Output Waker) : Type 0 where
    pub world : World
    pub follows : Follows world q
    pub queues : world.queues ≡ w.queues
    pub own : world.own ≡ w.own
    pub table : world.table ≡ w.table
    pub way : Left world os

  -- where none waits, a waker is called, and goes
  pub uses_in : (f : ℕ) (w : World) (os : List Op) (r : Plain Output Waker) → Follows w r → NoneWaits r → f < length w.tasks
      → Left (move_task move.Wake p w f).world ((move_task move.Wake p w f).next ++ os) → Kept w os (used_so f r)
  uses_in f w os r follows none at way =
      let one = frees_in p end rests f w os r follows at (λ waits. absurd (clash (none f) waits)) way in
      let x = get_below r.futures f (subst (λ n. f < n) follows.many at) in
      let same : freed_so f r ≡ used_so f r =
      used_slowly wakes f (λ s. s) (λ q x is still. record { future = x; there = is; still = still; same = refl }) r x.0 x.1
      (sym (ap (λ (t : AbstractTask Output Waker). t.infos) (task_is f r x.0 x.1))
      ∙ ap (λ (t : AbstractTask Output Waker). t.infos) (follows.tasks f at))
      ∙ used_calmly (λ s. s) f r none in
      record {
        world = one.world;
        follows = subst (Follows one.world) same one.follows;
        queues = one.still (none f);
        own = one.own;
        table = one.table;
        way = one.way;
      }

  -- who awaits a task is called
  calls_in : (f : ℕ) (a : Waker) (k : ℕ) (w : World) (os : List Op) (r : Plain Output Waker) → Follows w r → NoneWaits r
      → Left w (op.Waker (waker_op.CallAwaiter f a k) ∷ os) → Kept w os (call_so a r)
  calls_in f a k w os r follows none way =
      let step = next_of HasIn p end rests (op.Waker (waker_op.CallAwaiter f a k)) w os refl way in
      by a step.has step.way
    where
      by : (a : Waker) → IsKnownWaker w a
          → Left (call_waker p w (of.Handle f) a k).world ((call_waker p w (of.Handle f) a k).next ++ os) → Kept w os (call_so a r)
      by (Task g) at way =
          let e = event.WakerCalled p (of.Handle f) k (Task g) in
          let u = uses_in g (log w e) os r (logs w r follows e refl) none at way in
          record { world = u.world; follows = u.follows; queues = u.queues; own = u.own; table = u.table; way = u.way }
      by (Outside x) at way =
          let e = event.WakerCalled p (of.Handle f) k (Outside x) in
          record {
            world = log w e;
            follows = sees w r follows e (Calls (Outside x)) refl;
            queues = refl;
            own = refl;
            table = refl;
            way = past_outside_of HasIn p end rests x (log w e) os way;
          }

  called_in : (f : ℕ) (o : Option Awaiter) (w : World) (os : List Op) (r : Plain Output Waker) → Follows w r → NoneWaits r
      → Left w (told_ops false f o ++ os) → Kept w os (on (waker_in o) call_so r)
  called_in f None w os r follows none way =
      record { world = w; follows = follows; queues = refl; own = refl; table = refl; way = way }
  called_in f (Some a) w os r follows none way = calls_in f a.waker a.poll w os r follows none way

  gives_up_in : (f : ℕ) (w : World) (os : List Op) (r : Plain Output Waker) → Follows w r
      → Left w (op.Move move.GiveUp f ∷ os) → Kept w os (put f (lower (task f r)) r)
  gives_up_in f w os r follows way =
      let step = next_of HasIn p end rests (op.Move move.GiveUp f) w os refl way in
      let at : f < length w.tasks = step.has.0 in
      let s = world.task w f in
      let aw = waker_in (awaiter_of w f) in
      let stored = follows.stored f at in
      let m =
      moved_so Left p move.GiveUp f w os r (lower (task f r)) refl (λ q g. refl) follows at
      (ap (λ s. view s aw) (gave_up s)
      ∙ (ap (λ n. record (view s aw) { wakers = n }) (less s.references (token s))
      ∙ ap (λ t. told (lower t)) (sym (follows.tasks f at))))
      (subst (λ s. IsStored s (awaiter_of w f)) (sym (gave_up s))
      (record { awaiter = stored.awaiter; registering = stored.registering; notifying = stored.notifying }))
      (follows.calm f at) step.way in
      record {
        world = m.world;
        follows = m.follows;
        queues = m.queues;
        own = m.own;
        table = m.table;
        way = subst (λ ops. Left m.world (ops ++ os)) (gave_up_owes (among f w.table) f (moves.is_last s) s) m.way;
      }

  module _ (f : ℕ) (w : World) (os : List Op) (q : Plain Output Waker) (follows : Follows w q) (none : NoneWaits q)
      (empty : w.table ≡ []) where
    abbrev it : State
    it = world.task w f

    abbrev s1 : State
    s1 = (moves.drop_runnable it).state

    abbrev s3 : State
    s3 = settled_of it

    abbrev w3 : World
    w3 = world.put w f s3

    abbrev last : AbstractTask Output Waker
    last = last_of f q

    -- with the Runnable's reference
    abbrev r1 : Plain Output Waker
    r1 = put f (raised last) q

    abbrev to_give : List Op
    to_give = op.Move move.GiveUp f ∷ os

    -- it is closed, and its run settled
    settles_in : f < length w.tasks → Left w (op.Move move.DropRunnable f ∷ os)
        → Left w3 (owed_ops (among f w.table) f (moves.settled it.awaiter) ++ os)
    settles_in at way =
        let one = next_of HasIn p end rests (op.Move move.DropRunnable f) w os refl way in
        let out : among f w.table ≡ false = ap (among f) empty in
        let w1 = world.put w f s1 in
        let two =
        next_of HasIn p end rests (op.Move move.SettleClosed f) w1 os refl
        (subst (λ b. Left w1 (owed_ops b f (moves.drop_runnable it).owed ++ os)) out one.way) in
        let here : world.task w1 f ≡ s1 = get_or-set_same w.tasks f s1 blank at in
        let three : Left (world.put w1 f s3) (owed_ops (among f w.table) f (moves.settled it.awaiter) ++ os) =
        subst (λ s. Left (world.put w1 f (moves.settle_closed s).state) (owed_ops (among f w.table) f (moves.settle_closed s).owed ++ os))
        here two.way in
        subst (λ ts. Left (record w { tasks = ts }) (owed_ops (among f w.table) f (moves.settled it.awaiter) ++ os))
        (set_twice w.tasks f s1 s3) three

    raised_is : f < length w.tasks → IsQueued it → view s3 None ≡ told (raised last)
    raised_is at queued =
        settled_view (waker_in (awaiter_of w f)) it.scheduled it.running it.completed it.closed it.handle it.awaiter it.registering
        it.notifying it.references queued
        ∙ ap (λ t. told (raised (abstract.drop_runnable t).task)) (sym (follows.tasks f at))

    raised_none : NoneWaits r1
    raised_none g = by (waits_for (task g r1)) refl
      where
        by : (b : Bool) → waits_for (task g r1) ≡ b → waits_for (task g r1) ≡ false
        by false off = off
        by true on = absurd (clash (none g) (put_waits f (raised last) q refl g on).0)

    -- who awaits it is called
    calls_on : (at : f < length w.tasks) → IsQueued it → (b : Bool) → it.awaiter ≡ b
        → Left w3 (owed_ops (among f w.table) f (moves.settled b) ++ os) → Kept w to_give (on (task f q).awaiter call_so r1)
    calls_on at queued false off way =
        let nobody : awaiter_of w f ≡ None = is_nobody (awaiter_of w f) (sym (follows.stored f at).awaiter ∙ off) in
        let no_one : (task f q).awaiter ≡ None =
        ap (λ (t : AbstractTask Output Waker). t.awaiter) (follows.tasks f at) ∙ ap waker_in nobody in
        let stored = follows.stored f at in
        let there : Follows w3 r1 =
        puts w q follows f at s3 (raised last) (ap (λ o. view s3 (waker_in o)) nobody ∙ raised_is at queued)
        (record { awaiter = stored.awaiter; registering = stored.registering; notifying = stored.notifying }) (λ over. refl) in
        subst (λ o. Kept w to_give (on o call_so r1)) (sym no_one)
        (record { world = w3; follows = there; queues = refl; own = refl; table = refl; way = way })
      where
        is_nobody : (a : Option Awaiter) → is_some a ≡ false → a ≡ None
        is_nobody None none = refl
        is_nobody (Some a) none = absurd cc
    calls_on at queued true on_it way =
        let stored = follows.stored f at in
        let here : world.task w3 f ≡ s3 = get_or-set_same w.tasks f s3 blank at in
        let is_stored : IsStored s3 (awaiter_of w f) =
        record { awaiter = stored.awaiter; registering = stored.registering; notifying = stored.notifying } in
        let t =
        took_of HasIn p end rests f false w3 to_give (subst (λ n. f < n) (sym (length_set w.tasks f s3)) at)
        (subst (λ s. IsStored s (awaiter_of w f)) (sym here) is_stored) way in
        let s5 : State = record s3 { awaiter = false; notifying = false } in
        let w5 = put_awaiter (world.put w f s5) f None in
        let same : emptied f w3 ≡ w5 =
        ap (λ (s : State). put_awaiter (world.put w3 f (record s { awaiter = false; notifying = false })) f None) here
        ∙ ap (λ ts. record w { tasks = ts; awaiters = slice_set w.awaiters f None }) (set_twice w.tasks f s3 s5) in
        let there : Follows w5 r1 =
        settles w q follows f at s5 None (raised last) (raised_is at queued)
        (record { awaiter = refl; registering = stored.registering; notifying = refl }) (λ over. refl) in
        let k =
        called_in f (awaiter_of w f) w5 to_give r1 there raised_none
        (subst (λ w. Left w (told_ops false f (awaiter_of w3 f) ++ to_give)) same t.way) in
        subst (λ o. Kept w to_give (on o call_so r1)) (sym (ap (λ (t : AbstractTask Output Waker). t.awaiter) (follows.tasks f at)))
        (record { world = k.world; follows = k.follows; queues = k.queues; own = k.own; table = k.table; way = k.way })

    -- once the reference is given up it is as if it had been so before
    module _ (at : f < length w.tasks) where
      x : (x : Future Output Waker) × (slice_get q.futures f ≡ Some x)
      x = get_below q.futures f (subst (λ n. f < n) follows.many at)

      x1 : (x : Future Output Waker) × (slice_get r1.futures f ≡ Some x)
      x1 =
          get_below r1.futures f
          (subst (λ p. f < length p.futures) (sym (put_is f (raised last) q x.0 x.1))
          (subst (λ n. f < n) (sym (length_set q.futures f (record x.0 { task = told (raised last) })))
          (subst (λ n. f < n) follows.many at)))

      task_one : task f r1 ≡ told (raised last)
      task_one = ap (task f) (put_is f (raised last) q x.0 x.1) ∙ task_put f (raised last) q x.0 x.1

      stays : is_still x1.0.task.phase ≡ true
      stays = ap (λ (t : AbstractTask Output Waker). is_still t.phase) (sym (task_is f r1 x1.0 x1.1) ∙ task_one)

      lowered_one : put f (lower (task f r1)) r1 ≡ put f last q
      lowered_one =
          ap (λ t. put f (lower t) r1) task_one
          ∙ (put_twice f (raised last) (lower (told (raised last))) q x.0 x.1
          ∙ ap (λ n. put f (record (told last) { wakers = n }) q) (back last.wakers))
        where
          back : (n : ℕ) → n + 1 - 1 ≡ n
          back n = omega arith

      called_is : (o : Option Waker) → on o call_so r1 ≡ on o (called wakes (λ s. s)) r1
      called_is None = refl
      called_is (Some a) = sym (called_calmly (λ s. s) a r1 raised_none)

      last_is : (o : Option Waker) → on o (called wakes (λ s. s)) (put f last q) ≡ on o call_so (put f last q)
      last_is None = refl
      last_is (Some a) = called_calmly (λ s. s) a (put f last q) (last_none f q none)

      given_up : (o : Option Waker) → put f (lower (task f (on o call_so r1))) (on o call_so r1) ≡ on o call_so (put f last q)
      given_up o =
          let r : Plain Output Waker = on o (called wakes (λ s. s)) r1 in
          let k =
          called_past f wakes lower lowers (λ s. s)
          (λ q x is still. record { future = x; there = is; still = still; same = refl }) r1 x1.0 x1.1 stays o in
          ap (λ r. put f (lower (task f r)) r) (called_is o)
          ∙ (ap (λ t. put f (lower t) r) (task_is f r k.future k.there)
          ∙ (put_is f (lower k.future.task) r k.future k.there
          ∙ (k.same
          ∙ (ap (λ r. on o (called wakes (λ s. s)) r) (sym (lowered_is f r1 x1.0 x1.1) ∙ lowered_one) ∙ last_is o))))

    drops_in : Left w (op.Move move.DropRunnable f ∷ os) → Kept w os (closed_so f q)
    drops_in way =
        let has = (next_of HasIn p end rests (op.Move move.DropRunnable f) w os refl way).has in
        let k = calls_on has.0 has.1 it.awaiter refl (settles_in has.0 way) in
        let r : Plain Output Waker = on (task f q).awaiter call_so r1 in
        let u = gives_up_in f k.world os r k.follows k.way in
        record {
          world = u.world;
          follows = subst (Follows u.world) (given_up has.0 (task f q).awaiter) u.follows;
          queues = u.queues ∙ k.queues;
          own = u.own ∙ k.own;
          table = u.table ∙ k.table;
          way = u.way;
        }

  -- one queue is drained
  record Drained (m : Mark) (w : World) (os : List Op) (q : Plain Output Waker) : Type 0 where
    world : World
    due : List Due
    follows : Follows world (record q { due = due })
    empty : (queue_of world m).items ≡ []
    others : (queue_of world (other m)).items ≡ (queue_of w (other m)).items
    own : world.own ≡ w.own
    table : world.table ≡ w.table
    way : Left world (op.Closing (closing_op.Drain m) ∷ os)

  drains_on : (m : Mark) (fs : List ℕ) (w : World) (os : List Op) (q : Plain Output Waker) → Follows w q → NoneWaits q → w.table ≡ []
      → (queue_of w m).items ≡ fs → Left w (op.Closing (closing_op.Drain m) ∷ os) → Drained m w os (each fs closed_so q)
  drains_on m [] w os q follows none empty is way =
      record {
        world = w;
        due = q.due;
        follows = follows;
        empty = is;
        others = refl;
        own = refl;
        table = refl;
        way = way;
      }
  drains_on m (f ∷ rest) w os q follows none empty is way =
      let w1 = put_queue w m (taken (queue_of w m)) in
      let step = next_of HasIn p end rests (op.Closing (closing_op.Drain m)) w os refl way in
      let first = takes_first m w q f rest follows is in
      let d1 : List Due = without (is_common m) q.due in
      let k =
      drops_in f w1 (op.Closing (closing_op.Drain m) ∷ os) (record q { due = d1 }) first.1 none empty
      (subst (λ fs. Left (drain_by p w m fs).world ((drain_by p w m fs).next ++ os)) is step.way) in
      let more =
      drains_on m rest k.world os (record (closed_so f q) { due = d1 })
      (subst (Follows k.world) (closed_due d1 f q) k.follows) (closed_none f q none) (k.table ∙ empty)
      (ap (λ qs. (queue_in m qs).items) k.queues ∙ left_items m w is) k.way in
      record {
        world = more.world;
        due = more.due;
        follows = subst (λ z. Follows more.world (record z { due = more.due })) (each_due d1 rest (closed_so f q)) more.follows;
        empty = more.empty;
        others = more.others ∙ (ap (λ qs. (queue_in (other m) qs).items) k.queues ∙ other_items m w);
        own = more.own ∙ k.own;
        table = more.table ∙ k.table;
        way = more.way;
      }
    where
      left_items : (m : Mark) (w : World) → (queue_of w m).items ≡ f ∷ rest
          → (queue_of (put_queue w m (taken (queue_of w m))) m).items ≡ rest
      left_items PlainMark w is = ap (drop 1) is
      left_items Urgent w is = ap (drop 1) is

      other_items : (m : Mark) (w : World)
          → (queue_of (put_queue w m (taken (queue_of w m))) (other m)).items ≡ (queue_of w (other m)).items
      other_items PlainMark w = refl
      other_items Urgent w = refl

  abbrev shut_both : World → World
  shut_both w =
      let v : World = put_queue w Urgent (shut (queue_of w Urgent)) in
      put_queue v PlainMark (shut (queue_of v PlainMark))

  -- both queues are closed, and what stands in them is dropped
  sweeps : (c : Choice) (w : World) (q : Plain Output Waker) → Follows w q → NoneWaits q → w.table ≡ []
      → ((r : ℕ) → own_of w r ≡ []) → Left w (op.Closing (closing_op.Close Urgent) ∷ ending)
      → (end.next ≡ []) × Follows end.world (answers DoneAnswer (swept wakes c q))
  sweeps c w q follows none empty unkept way =
      let w1 = put_queue w Urgent (shut (queue_of w Urgent)) in
      let w2 = shut_both w in
      let one = next_of HasIn p end rests (op.Closing (closing_op.Close Urgent)) w ending refl way in
      let two = next_of HasIn p end rests (op.Closing (closing_op.Close PlainMark)) w1 ending refl one.way in
      let follows2 : Follows w2 q = lines_so w2.queues q.due w q follows (same_items w q follows) follows.kept in
      let us : List ℕ = futures_in (is_common Urgent) q.due in
      let ps : List ℕ = futures_in (is_common PlainMark) q.due in
      let du = drains_on Urgent us w2 ending q follows2 none empty (follows2.common Urgent) two.way in
      let three = next_of HasIn p end rests (op.Closing (closing_op.Drain Urgent)) du.world ending refl du.way in
      let z1 : Plain Output Waker = each us closed_so q in
      let q1 : Plain Output Waker = record z1 { due = du.due } in
      let dp =
      drains_on PlainMark ps du.world ending q1 du.follows (each_closed c us q none).1 (du.table ∙ empty)
      (du.others ∙ follows2.common PlainMark)
      (subst (λ fs. Left (drain_by p du.world Urgent fs).world ((drain_by p du.world Urgent fs).next ++ ending)) du.empty three.way) in
      let four = next_of HasIn p end rests (op.Closing (closing_op.Drain PlainMark)) dp.world ending refl dp.way in
      let z2 : Plain Output Waker = each ps closed_so q1 in
      let q3 : Plain Output Waker = record z2 { due = [] } in
      let bare : Follows dp.world q3 =
      lines_so dp.world.queues [] dp.world (record z2 { due = dp.due }) dp.follows
      (nothing_left dp.world dp.empty (dp.others ∙ du.empty))
      (λ r. ap (λ qs. slice_index_or qs r []) (dp.own ∙ du.own) ∙ unkept r) in
      let e = event.DropEnded p in
      subst (λ z. (end.next ≡ []) × Follows end.world (answers DoneAnswer z)) (swept_calmly c q none du.due)
      (ends_in p end rests (log dp.world e) q3 hold.Nothing (logs dp.world q3 bare e refl)
      (subst (λ fs. Left (drain_by p dp.world PlainMark fs).world ((drain_by p dp.world PlainMark fs).next ++ ending)) dp.empty four.way))
    where
      same_items : (w : World) (q : Plain Output Waker) → Follows w q → (m : Mark)
          → (queue_in m (shut_both w).queues).items ≡ futures_in (is_common m) q.due
      same_items w q r PlainMark = r.common PlainMark
      same_items w q r Urgent = r.common Urgent

      nothing_left : (w : World) → (queue_of w PlainMark).items ≡ [] → (queue_of w Urgent).items ≡ [] → (m : Mark)
          → (queue_of w m).items ≡ []
      nothing_left w plain urgent PlainMark = plain
      nothing_left w plain urgent Urgent = urgent

  -- from where the last future was dropped
  pub closes_all : (c : Choice) (ws : List ℕ) (w : World) (q : Plain Output Waker)
      → Follows w (record q { inside = Close [] ws ∷ q.inside }) → waking_in q.inside ≡ [] → q.lying ≡ [] → AreOpen w
      → w.table ≡ [] → ((r : ℕ) → own_of w r ≡ []) → WaitAmong ws q → Left w (closing_ops [] ws ++ ending)
      → (end.next ≡ []) × Follows end.world (close wakes c [] ws q)
  closes_all c ws w q follows nowhere nobody opened empty unkept among_them way =
      let u = wakes_on p end rests q.inside ws w ending q follows nobody opened way in
      let z : Plain Output Waker = each ws freed_so q in
      let inside : z.inside ≡ q.inside =
      ap (λ (z : Plain Output Waker). z.inside) (sym (each_freed c ws q nobody)) ∙ freed_inside c ws q in
      let there : Follows u.world z =
      stands_in z.inside u.world (record z { inside = Close [] [] ∷ q.inside }) u.follows
      (ap (λ codes. waking_in codes) inside ∙ nowhere) in
      subst (λ z. (end.next ≡ []) × Follows end.world (answers DoneAnswer (swept wakes c z))) (sym (each_freed c ws q nobody))
      (sweeps c u.world z there (each_waits ws q among_them) (u.table ∙ empty)
      (λ r. ap (λ qs. slice_index_or qs r []) u.own ∙ unkept r) u.way)
