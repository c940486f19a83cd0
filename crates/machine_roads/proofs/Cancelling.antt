-- A cancel: the future of an idle task is queued, and who awaits the task is taken out and called.
use Rattle.std.proofs.Common.{◌≡◌, ℕ, ◌<◌, ◌++◌, ◌&&◌, ◌||◌, not, Bool, true, false, List, [], ◌∷◌, length, Option, Some, None}
use Rattle.std.proofs.Common.{is_some, slice_set, if◌then◌else◌, refl, sym, ap, subst, ◌∙◌}
use Rattle.std.proofs.lemmas.List.{get_or-set_same}
use Rattle.task_moves.specs.declared.moves.owed.Move.TheVariants as move
use Rattle.task_moves.specs.declared.moves.state.State.{State}
use Rattle.task_moves.specs.AbstractTask as abstract
use Rattle.task_moves.specs.AbstractTask.{AbstractTask}
use Rattle.task_moves.specs.LocalTask.{info_of, told}
use Rattle.task_moves.specs.Moves as moves
use Rattle.executor_model.specs.declared.op.Awaiter.{Awaiter}
use Rattle.executor_model.specs.declared.op.HandleOp.TheVariants as handle_op
use Rattle.executor_model.specs.declared.op.Op.{Op}
use Rattle.executor_model.specs.declared.op.Op.TheVariants as op
use Rattle.executor_model.specs.declared.op.Polled.TheVariants as of
use Rattle.executor_model.specs.declared.op.Waker.{Waker}
use Rattle.executor_model.specs.declared.op.WakerOp.TheVariants as waker_op
use Rattle.executor_model.specs.Acts.{move_task, notify_by, told as told_ops}
use Rattle.executor_model.specs.World.{World, Done, among, awaiter_of, blank, put_awaiter}
use Rattle.executor_model.specs.World as world
use Rattle.plain_scheduler.specs.State.{Plain}
use Rattle.plain_scheduler.specs.Lists.{on}
use Rattle.plain_scheduler.specs.Moves.{appended, becomes, called, put, task}
use Rattle.machine_roads.specs.View.{Output, view, wakes, waker_in}
use Rattle.machine_roads.specs.Moving.{cancelled, CancelsAlike}
use Rattle.machine_roads.specs.Road.{Follows, IsStored}
use Rattle.machine_roads.specs.Alone.{is_resting, Has}
use Rattle.machine_roads.proofs.Calm.{cancelled_calm}
use Rattle.machine_roads.proofs.Lists.{get_below, set_twice}
use Rattle.machine_roads.proofs.Moving.{cancels_alike, cancels_over, cancels_open, cancels_queued}
use Rattle.machine_roads.proofs.Marks.{queue_if, notify_if, cancelled_stored, cancelled_owes}
use Rattle.machine_roads.proofs.Stepping.{Way, WayOf, next, next_of}
use Rattle.machine_roads.proofs.Puts.{put_asks, put_lying}
use Rattle.machine_roads.proofs.Changing.{put_again, settles}
use Rattle.machine_roads.proofs.Used.{unawaited, unawaits, used_asks}
use Rattle.machine_roads.proofs.Later.{later}
use Rattle.machine_roads.proofs.Moved.{Then, Tells, moved, becoming, called_fits, fits, calls_so}
use Rattle.machine_roads.proofs.Exchanging.{called_asks, outputs}

cancel_keeps : (t : AbstractTask Output Waker) → (abstract.cancel t).task.output ≡ t.output
cancel_keeps t = by (t.closed || abstract.is_over t.phase) (abstract.is_idle t.phase)
  where
    by : (b c : Bool)
        → (if b then abstract.left t else record {
          task = record (record (if c then abstract.queue false t else t) { closed = true }) { awaiter = None };
          called = t.awaiter;
          dropped = None;
          let_go = None;
        }).task.output
        ≡ t.output
    by true c = refl
    by false true = refl
    by false false = refl

-- without who awaits the task
abbrev pub emptied : ℕ → World → World
emptied f w = put_awaiter (world.put w f (record (world.task w f) { awaiter = false; notifying = false })) f None

-- an output that is there stays, and none comes
pub cancel_output : (more : Plain Output Waker → Plain Output Waker)
    → ((f : ℕ) (q : Plain Output Waker) → (task f (more q)).output ≡ (task f q).output) → (f : ℕ) (q : Plain Output Waker)
    → (task f (on (abstract.cancel (task f q)).called (called wakes more)
    (becomes wakes more f (abstract.cancel (task f q)).task q))).output
    ≡ (task f q).output
cancel_output more keeps f q =
    called_asks (λ t. t.output) (used_asks (λ t. t.output) outputs) f more (keeps f) left.called (becomes wakes more f left.task q)
    ∙ by (is_some (info_of (task f q) left.task))
  where
    left : abstract.Left Output Waker
    left = abstract.cancel (task f q)

    put_so : (task f (put f left.task q)).output ≡ (task f q).output
    put_so = put_asks (λ t. t.output) f f left.task q (cancel_keeps (task f q))

    by : (b : Bool) → (task f (if b then more (appended f (put f left.task q)) else put f left.task q)).output ≡ (task f q).output
    by true = keeps f (appended f (put f left.task q)) ∙ put_so
    by false = put_so

-- on the machine, it is left to be called or let go
pub record TookOf (Asked : World → Op → Type 0) (p : ℕ) (end : Done) (f : ℕ) (mine : Bool) (w : World) (os : List Op) : Type 0 where
  pub at : f < length w.tasks
  pub same : Bool
  pub way : WayOf Asked p end (emptied f w) (told_ops (mine && same) f (awaiter_of w f) ++ os)

pub took_of : (Asked : World → Op → Type 0) (p : ℕ) (end : Done) → is_resting end.next ≡ true → (f : ℕ) (mine : Bool) (w : World)
    (os : List Op) → f < length w.tasks → IsStored (world.task w f) (awaiter_of w f)
    → WayOf Asked p end w (op.Handle (handle_op.Notify f mine) ∷ os) → TookOf Asked p end f mine w os
took_of Asked p end rests f mine w os at stored way =
    let one = next_of Asked p end rests (op.Handle (handle_op.Notify f mine)) w os refl way in
    let s = world.task w f in
    let free : (s.notifying || s.registering) ≡ false =
    ap (λ b. b || s.registering) stored.notifying ∙ stored.registering in
    let first : World = world.put w f (moves.notify_by false s).state in
    let two =
    next_of Asked p end rests (op.Handle (handle_op.EndNotify f mine)) first os refl
    (subst (λ b. WayOf Asked p end (notify_by b w f mine).world ((notify_by b w f mine).next ++ os)) free one.way) in
    let here : world.task first f ≡ (moves.notify_by false s).state =
    get_or-set_same w.tasks f (moves.notify_by false s).state blank at in
    let last : State = record s { awaiter = false; notifying = false } in
    let same : put_awaiter (world.put first f (moves.end_notify (world.task first f)).state) f None ≡ emptied f w =
    ap (λ t. put_awaiter (world.put first f (moves.end_notify t).state) f None) here
    ∙ ap (λ ts. record w { tasks = ts; awaiters = slice_set w.awaiters f None })
    (set_twice w.tasks f (moves.notify_by false s).state last) in
    record {
      at = at;
      same = two.hint.same;
      way = subst (λ w. WayOf Asked p end w (told_ops (mine && two.hint.same) f (awaiter_of first f) ++ os)) same two.way;
    }

pub took : (p : ℕ) (end : Done) → is_resting end.next ≡ true → (f : ℕ) (mine : Bool) (w : World) (os : List Op)
    → (f < length w.tasks → IsStored (world.task w f) (awaiter_of w f)) → Way p end w (op.Handle (handle_op.Notify f mine) ∷ os)
    → TookOf Has p end f mine w os
took p end rests f mine w os is_stored way =
    let at : f < length w.tasks = (next p end rests (op.Handle (handle_op.Notify f mine)) w os refl way).has in
    took_of Has p end rests f mine w os at (is_stored at) way

module _ (p : ℕ) (end : Done) (rests : is_resting end.next ≡ true) (more : Plain Output Waker → Plain Output Waker)
    (P : Plain Output Waker → Type 0) (teller : Tells p end more P) where
  -- who awaits a task is taken out, and called
  abbrev pub notified : ℕ → Plain Output Waker → Plain Output Waker
  notified f q = on (task f q).awaiter (called wakes more) (put f (unawaited (task f q)) q)

  -- so it is taken out, as the plain scheduler does
  pub record Taken (f : ℕ) (mine : Bool) (w : World) (os : List Op) (q : Plain Output Waker) : Type 0 where
    pub at : f < length w.tasks
    pub world : World
    pub follows : Follows world (put f (unawaited (task f q)) q)
    pub same : Bool
    pub way : Way p end world (told_ops (mine && same) f (awaiter_of w f) ++ os)

  taken : (f : ℕ) (mine : Bool) (w : World) (os : List Op) (q : Plain Output Waker) → Follows w q
      → Way p end w (op.Handle (handle_op.Notify f mine) ∷ os) → Taken f mine w os q
  taken f mine w os q follows way =
      let t = took p end rests f mine w os (follows.stored f) way in
      let stored = follows.stored f t.at in
      record {
        at = t.at;
        world = emptied f w;
        follows =
            settles w q follows f t.at (record (world.task w f) { awaiter = false; notifying = false }) None (unawaited (task f q))
            (ap (λ (t : AbstractTask Output Waker). told (unawaited t)) (sym (follows.tasks f t.at)))
            (record { awaiter = refl; registering = stored.registering; notifying = refl }) (λ over. refl);
        same = t.same;
        way = t.way;
      }

  -- and called
  pub calls_taken : (f : ℕ) (a : Option Awaiter) (w : World) (os : List Op) (q : Plain Output Waker) → Follows w q → P q
      → Way p end w (told_ops false f a ++ os) → Then p end os (on (waker_in a) (called wakes more) q)
  calls_taken f None w os q follows fit way = record { world = w; follows = follows; way = way }
  calls_taken f (Some a) w os q follows fit way =
      let s = next p end rests (op.Waker (waker_op.CallAwaiter f a.waker a.poll)) w os refl way in
      calls_so p end rests more P teller a.waker (of.Handle f) a.poll w os q follows fit s.has s.way

  notifies : (f : ℕ) (w : World) (os : List Op) (q : Plain Output Waker) → Follows w q → P q
      → Way p end w (op.Handle (handle_op.Notify f false) ∷ os) → Then p end os (notified f q)
  notifies f w os q follows fit way =
      let m = taken f false w os q follows way in
      subst (λ o. Then p end os (on o (called wakes more) (put f (unawaited (task f q)) q)))
      (sym (ap (λ (t : AbstractTask Output Waker). t.awaiter) (follows.tasks f m.at)))
      (calls_taken f (awaiter_of w f) m.world os (put f (unawaited (task f q)) q) m.follows
      (teller.like q (put f (unawaited (task f q)) q) (sym (put_lying f (unawaited (task f q)) q)) fit) m.way)

  -- where nobody is there nothing is done
  pub notifies_nobody : (f : ℕ) (mine : Bool) (w : World) (os : List Op) (q : Plain Output Waker)
      → Follows w q → (task f q).awaiter ≡ None → Way p end w (op.Handle (handle_op.Notify f mine) ∷ os) → Then p end os q
  notifies_nobody f mine w os q follows none way =
      let m = taken f mine w os q follows way in
      let there : awaiter_of w f ≡ None =
      nobody_is (awaiter_of w f) (sym (ap (λ (t : AbstractTask Output Waker). t.awaiter) (follows.tasks f m.at)) ∙ none) in
      let same : put f (unawaited (task f q)) q ≡ q =
      ap (λ (a : Option Waker). put f (record (task f q) { awaiter = a }) q) (sym none) ∙ put_again f w q follows in
      subst (Then p end os) same
      (record {
        world = m.world;
        follows = m.follows;
        way = subst (λ ops. Way p end m.world (ops ++ os))
            (ap (told_ops (mine && m.same) f) there ∙ nothing (mine && m.same)) m.way;
      })
    where
      nobody_is : (a : Option Awaiter) → waker_in a ≡ None → a ≡ None
      nobody_is None is = refl
      nobody_is (Some a) is = absurd cc

      nothing : (b : Bool) → told_ops b f None ≡ []
      nothing true = refl
      nothing false = refl

  module _ (f : ℕ) (w : World) (os : List Op) (r : Plain Output Waker) (follows : Follows w r) (fit : P r)
      (at : f < length w.tasks) where
    abbrev s : State
    s = world.task w f

    abbrev t : AbstractTask Output Waker
    t = task f r

    tk : t ≡ view s (waker_in (awaiter_of w f))
    tk = follows.tasks f at

    abbrev q : Plain Output Waker
    q = becomes wakes more f (cancelled t) r

    abbrev left : abstract.Left Output Waker
    left = abstract.cancel t

    abbrev whole : Plain Output Waker
    whole = on left.called (called wakes more) (becomes wakes more f left.task r)

    -- a task that is over stays as it is
    over_is : moves.is_over s ≡ true → q ≡ whole
    over_is is =
        ap (λ n. becomes wakes more f n r)
        (ap (λ t. cancelled t) tk ∙ (sym (cancels_over s (waker_in (awaiter_of w f)) is) ∙ ap (λ t. (abstract.cancel t).task) (sym tk)))
        ∙ ap (λ o. on o (called wakes more) (becomes wakes more f left.task r)) (sym none)
      where
        none : left.called ≡ None
        none =
            ap (λ t. (abstract.cancel t).called) tk
            ∙ ((cancels_alike s (waker_in (awaiter_of w f))).calls
            ∙ ap (λ b. if b then None else waker_in (awaiter_of w f)) is)

    -- of any other the awaiter goes, once its future was queued
    open_task : moves.is_over s ≡ false → left.task ≡ unawaited (cancelled t)
    open_task is =
        ap (λ t. (abstract.cancel t).task) tk
        ∙ (cancels_open s (waker_in (awaiter_of w f)) is ∙ ap (λ t. unawaited (cancelled t)) (sym tk))

    open_calls : moves.is_over s ≡ false → left.called ≡ t.awaiter
    open_calls is =
        ap (λ t. (abstract.cancel t).called) tk
        ∙ ((cancels_alike s (waker_in (awaiter_of w f))).calls
        ∙ (ap (λ b. if b then None else waker_in (awaiter_of w f)) is ∙ ap (λ (t : AbstractTask Output Waker). t.awaiter) (sym tk)))

    becomes_awaits : (task f q).awaiter ≡ t.awaiter
    becomes_awaits = by (is_some (info_of t (cancelled t)))
      where
        put_is_so : (task f (put f (cancelled t) r)).awaiter ≡ t.awaiter
        put_is_so = put_asks (λ t. t.awaiter) f f (cancelled t) r refl

        by : (b : Bool)
            → (task f (if b then more (appended f (put f (cancelled t) r)) else put f (cancelled t) r)).awaiter ≡ t.awaiter
        by true = teller.awaits f (appended f (put f (cancelled t) r)) ∙ put_is_so
        by false = put_is_so

    once : put f (unawaited (task f q)) q ≡ becomes wakes more f (unawaited (cancelled t)) r
    once =
        let x = get_below r.futures f (subst (λ n. f < n) follows.many at) in
        later wakes f unawaited more (teller.past unawaited unawaits f) r x.0 x.1 (cancelled t) refl
        (is_some (info_of t (cancelled t))) refl refl queued
      where
        queued : is_some (info_of t (cancelled t)) ≡ true → (cancelled t).phase ≡ abstract.Phase.Queued
        queued is =
            ap (λ t. (cancelled t).phase) tk
            ∙ cancels_queued s (waker_in (awaiter_of w f)) (sym (ap (λ t. is_some (info_of t (cancelled t))) tk) ∙ is)

    open_is : moves.is_over s ≡ false → notified f q ≡ whole
    open_is is =
        ap (λ o. on o (called wakes more) (put f (unawaited (task f q)) q)) (becomes_awaits ∙ sym (open_calls is))
        ∙ ap (λ q. on left.called (called wakes more) q)
        (once ∙ ap (λ n. becomes wakes more f n r) (sym (open_task is)))

    -- where nobody awaits it
    unawaited_is : moves.is_over s ≡ false → t.awaiter ≡ None → q ≡ whole
    unawaited_is is none =
        ap (λ n. becomes wakes more f n r) (ap (λ (a : Option Waker). record (cancelled t) { awaiter = a }) none ∙ sym (open_task is))
        ∙ ap (λ o. on o (called wakes more) (becomes wakes more f left.task r)) (sym (open_calls is ∙ none))

    pub cancels_so : Way p end (move_task move.Cancel p w f).world ((move_task move.Cancel p w f).next ++ os)
        → Then p end os whole
    cancels_so way =
        let al : CancelsAlike s (waker_in (awaiter_of w f)) = cancels_alike s (waker_in (awaiter_of w f)) in
        let b : Bool = is_some (moves.cancel s).owed.schedule in
        let n : Bool = not (moves.is_over s) && s.awaiter in
        let m =
        moved p end rests move.Cancel f w os r (cancelled t) refl (λ q g. refl) follows at
        (al.is.task ∙ ap (λ t. told (cancelled t)) (sym tk))
        (cancelled_stored (awaiter_of w f) s (follows.stored f at)) (cancelled_calm t (follows.calm f at)) way in
        let one =
        becoming p end rests more P teller f m.world (notify_if n f ++ os) r (cancelled t) b m.follows fit
        (ap (λ t. is_some (info_of t (cancelled t))) tk ∙ sym al.is.queues)
        (regroup b n m.world (subst (λ ops. Way p end m.world (ops ++ os)) (cancelled_owes (among f w.table) f s) m.way)) in
        finish (moves.is_over s) s.awaiter refl refl one.world one.follows (fits p end rests more P teller f (cancelled t) r fit) one.way
      where
        regroup : (b n : Bool) (w : World) → Way p end w ((queue_if b f ++ notify_if n f) ++ os)
            → Way p end w (queue_if b f ++ (notify_if n f ++ os))
        regroup true n w way = way
        regroup false n w way = way

        nobody : (a : Option Awaiter) → is_some a ≡ false → waker_in a ≡ None
        nobody None is = refl
        nobody (Some a) is = absurd cc

        finish : (o a : Bool) → moves.is_over s ≡ o → s.awaiter ≡ a → (w : World) → Follows w q → P q
            → Way p end w (notify_if (not o && a) f ++ os) → Then p end os whole
        finish true a is has w follows fit way = subst (Then p end os) (over_is is) (record { world = w; follows = follows; way = way })
        finish false true is has w' follows' fit way =
            subst (Then p end os) (open_is is) (notifies f w' os q follows' fit way)
        finish false false is has w' follows' fit way =
            subst (Then p end os)
            (unawaited_is is
            (ap (λ (t : AbstractTask Output Waker). t.awaiter) tk
            ∙ nobody (awaiter_of w f) (sym (follows.stored f at).awaiter ∙ has)))
            (record { world = w'; follows = follows'; way = way })

    pub cancel_fits : P whole
    cancel_fits =
        called_fits p end rests more P teller left.called (becomes wakes more f left.task r)
        (fits p end rests more P teller f left.task r fit)

    -- no output comes by it
    pub cancel_outputs : t.output ≡ None → (task f whole).output ≡ None
    cancel_outputs none = cancel_output more teller.outputs f r ∙ none
