-- A move of a task, and what follows it: its future comes into a queue, and one that sleeps is told, where the plain scheduler does so.
use Rattle.std.proofs.Common.{◌≡◌, ℕ, ◌<◌, ◌++◌, Bool, true, false, List, [], ◌∷◌, length, Option, Some, None, is_some}
use Rattle.std.proofs.Common.{slice_get, if◌then◌else◌, refl, sym, ap, subst, ◌∙◌}
use Rattle.task_moves.specs.declared.moves.owed.Move.{Move}
use Rattle.task_moves.specs.declared.moves.state.State.{State}
use Rattle.task_moves.specs.declared.moves.owed.Move.TheVariants as move
use Rattle.task_moves.specs.AbstractTask as abstract
use Rattle.task_moves.specs.AbstractTask.{AbstractTask}
use Rattle.task_moves.specs.LocalTask.{info_of, told}
use Rattle.task_moves.specs.Moves as moves
use Rattle.executor_model.specs.declared.event.Event.TheVariants as event
use Rattle.executor_model.specs.declared.op.Op.{Op}
use Rattle.executor_model.specs.declared.op.Op.TheVariants as op
use Rattle.executor_model.specs.declared.op.Polled.{Polled}
use Rattle.executor_model.specs.declared.op.QueueOp.TheVariants as queue_op
use Rattle.executor_model.specs.declared.op.SleeperOp.TheVariants as sleeper_op
use Rattle.executor_model.specs.declared.op.Waker.{Waker}
use Rattle.executor_model.specs.declared.op.Waker.TheVariants.{Task, Outside}
use Rattle.executor_model.specs.Acts.{append_by, call_waker, move_by, move_task, stands_alone, told_as, told_of, is_last_waker}
use Rattle.executor_model.specs.Acts.{is_told}
use Rattle.executor_model.specs.Carried.{owed_ops}
use Rattle.executor_model.specs.Good.{IsKnownWaker}
use Rattle.executor_model.specs.World.{World, Done, among, awaiter_of, mark_of, log}
use Rattle.executor_model.specs.World as world
use Rattle.plain_scheduler.specs.State.{Calls, Future, Plain}
use Rattle.plain_scheduler.specs.Lists.{on}
use Rattle.plain_scheduler.specs.Moves.{appended, becomes, called, put, release, see, task, used, wake}
use Rattle.machine_roads.specs.View.{Output, view, wakes, waker_in}
use Rattle.machine_roads.specs.Seeing.{heard}
use Rattle.machine_roads.specs.Moving.{IsMove}
use Rattle.machine_roads.specs.Road.{Follows, IsStored}
use Rattle.machine_roads.specs.Alone.{is_resting}
use Rattle.machine_roads.proofs.Calm.{IsCalm, release_calm, wake_calm}
use Rattle.machine_roads.proofs.Lists.{get_below}
use Rattle.machine_roads.proofs.Moving.{wakes_alike, releases_alike}
use Rattle.machine_roads.proofs.Marks.{queue_if, woken_stored, released_stored, woken_owes, used_owes, released_owes}
use Rattle.machine_roads.proofs.Stepping.{Way, next, past_outside}
use Rattle.machine_roads.proofs.Puts.{put_at, put_lying, task_is}
use Rattle.machine_roads.proofs.Changing.{puts, logs, sees, appends}
use Rattle.machine_roads.proofs.Used.{is_still, lower, lowers, Comes, IsLater}
use Rattle.machine_roads.proofs.Slowly.{used_slowly}

-- so much is done: the plain scheduler follows, and the rest is left to do
pub record Then (p : ℕ) (end : Done) (os : List Op) (q : Plain Output Waker) : Type 0 where
  pub world : World
  pub follows : Follows world q
  pub way : Way p end world os

-- how the plain scheduler tells, as far as the machine does so too
pub record Tells (p : ℕ) (end : Done) (more : Plain Output Waker → Plain Output Waker) (P : Plain Output Waker → Type 0)
    : Type 0 where
  -- it is of who lies alone
  pub like : (q r : Plain Output Waker) → q.lying ≡ r.lying → P q → P r
  pub keeps : (q : Plain Output Waker) → P q → P (more q)
  pub tells : (w : World) (os : List Op) (q : Plain Output Waker) → P q → Follows w q
      → Way p end w (op.Sleeper sleeper_op.ExchangeFlag ∷ os) → Then p end os (more q)
  pub past : (h : AbstractTask Output Waker → AbstractTask Output Waker) → IsLater h → (f : ℕ) (q : Plain Output Waker)
      (x : Future Output Waker) → slice_get q.futures f ≡ Some x → is_still x.task.phase ≡ true
      → Comes f wakes h (more (put_at f (h x.task) x q)) (more q)
  pub awaits : (f : ℕ) (q : Plain Output Waker) → (task f (more q)).awaiter ≡ (task f q).awaiter
  pub outputs : (f : ℕ) (q : Plain Output Waker) → (task f (more q)).output ≡ (task f q).output
  pub polls : (f : ℕ) (q : Plain Output Waker) → abstract.polled (task f (more q)) ≡ abstract.polled (task f q)

-- a move was made: both stand alike, and what it owes is left to do
pub record MovedSo (Left : World → List Op → Type 0) (w : World) (os : List Op) (q : Plain Output Waker) : Type 0 where
  pub world : World
  pub follows : Follows world q
  pub queues : world.queues ≡ w.queues
  pub own : world.own ≡ w.own
  pub table : world.table ≡ w.table
  pub way : Left world os

pub moved_so : (Left : World → List Op → Type 0) (p : ℕ) (m : Move) (f : ℕ) (w : World) (os : List Op) (r : Plain Output Waker)
    (new : AbstractTask Output Waker) → stands_alone m ≡ true → ((q g : ℕ) → heard (told_as m q g) ≡ []) → Follows w r
    → f < length w.tasks → view (moves.after m (world.task w f)).state (waker_in (awaiter_of w f)) ≡ told new
    → IsStored (moves.after m (world.task w f)).state (awaiter_of w f) → IsCalm new
    → Left (move_task m p w f).world ((move_task m p w f).next ++ os)
    → MovedSo Left w (owed_ops (among f w.table) f (moves.after m (world.task w f)).owed ++ os) (put f new r)
moved_so Left p m f w os r new stands unheard follows at same stored calm way =
    by (is_last_waker m (world.task w f)) (is_told m (world.task w f))
    (subst (λ b. Left (move_by b m p w f).world ((move_by b m p w f).next ++ os)) stands way)
  where
    s : State
    s = (moves.after m (world.task w f)).state

    by : (last b : Bool)
        → Left (world.put (told_of last b m p w f) f s)
        (owed_ops (among f (told_of last b m p w f).table) f (moves.after m (world.task w f)).owed ++ os)
        → MovedSo Left w (owed_ops (among f w.table) f (moves.after m (world.task w f)).owed ++ os) (put f new r)
    by true true way =
        let one = log w (told_as m p f) in
        let two = log one (event.LastWaker p f) in
        record {
          world = world.put two f s;
          follows =
              puts two r (logs one r (logs w r follows (told_as m p f) (unheard p f)) (event.LastWaker p f) refl) f at s new same
              stored calm;
          queues = refl;
          own = refl;
          table = refl;
          way = way;
        }
    by true false way =
        let two = log w (event.LastWaker p f) in
        record {
          world = world.put two f s;
          follows = puts two r (logs w r follows (event.LastWaker p f) refl) f at s new same stored calm;
          queues = refl;
          own = refl;
          table = refl;
          way = way;
        }
    by false true way =
        let one = log w (told_as m p f) in
        record {
          world = world.put one f s;
          follows = puts one r (logs w r follows (told_as m p f) (unheard p f)) f at s new same stored calm;
          queues = refl;
          own = refl;
          table = refl;
          way = way;
        }
    by false false way =
        record {
          world = world.put w f s;
          follows = puts w r follows f at s new same stored calm;
          queues = refl;
          own = refl;
          table = refl;
          way = way;
        }

module _ (p : ℕ) (end : Done) (rests : is_resting end.next ≡ true) where
  -- what is done to the world behind it leaves both alike
  moved_then : (after : World → World) → ((w : World) (r : Plain Output Waker) → Follows w r → Follows (after w) r) → (m : Move)
      (f : ℕ) (w : World) (os : List Op) (r : Plain Output Waker) (new : AbstractTask Output Waker)
      → stands_alone m ≡ true → ((q g : ℕ) → heard (told_as m q g) ≡ []) → Follows w r → f < length w.tasks
      → view (moves.after m (world.task w f)).state (waker_in (awaiter_of w f)) ≡ told new
      → IsStored (moves.after m (world.task w f)).state (awaiter_of w f) → IsCalm new
      → Way p end (after (move_task m p w f).world) ((move_task m p w f).next ++ os)
      → Then p end (owed_ops (among f w.table) f (moves.after m (world.task w f)).owed ++ os) (put f new r)
  moved_then after keeps m f w os r new stands unheard follows at same stored calm way =
      let m = moved_so (λ w os. Way p end (after w) os) p m f w os r new stands unheard follows at same stored calm way in
      record { world = after m.world; follows = keeps m.world (put f new r) m.follows; way = m.way }

  pub moved : (m : Move) (f : ℕ) (w : World) (os : List Op) (r : Plain Output Waker) (new : AbstractTask Output Waker)
      → stands_alone m ≡ true → ((q g : ℕ) → heard (told_as m q g) ≡ []) → Follows w r → f < length w.tasks
      → view (moves.after m (world.task w f)).state (waker_in (awaiter_of w f)) ≡ told new
      → IsStored (moves.after m (world.task w f)).state (awaiter_of w f) → IsCalm new
      → Way p end (move_task m p w f).world ((move_task m p w f).next ++ os)
      → Then p end (owed_ops (among f w.table) f (moves.after m (world.task w f)).owed ++ os) (put f new r)
  moved m f w os r new stands unheard follows at same stored calm way =
      moved_then (λ w. w) (λ w r follows. follows) m f w os r new stands unheard follows at same stored calm way

  module _ (more : Plain Output Waker → Plain Output Waker) (P : Plain Output Waker → Type 0) (teller : Tells p end more P) where
    -- a future comes into its queue, if it does, and one that sleeps is told
    pub queued : (f : ℕ) (w : World) (os : List Op) (q : Plain Output Waker) → Follows w q → P q → (b : Bool)
        → Way p end w (queue_if b f ++ os) → Then p end os (if b then more (appended f q) else q)
    queued f w os q follows fit false way = record { world = w; follows = follows; way = way }
    queued f w os q follows fit true way =
        let m = mark_of w f in
        let s = next p end rests (op.Queue (queue_op.Append f)) w os refl way in
        teller.tells (append_by true w m f).world os (appended f q) (teller.like q (appended f q) refl fit)
        (appends w q follows f m refl)
        (subst (λ b. Way p end (append_by b w m f).world ((append_by b w m f).next ++ os)) s.has.1 s.way)

    pub becoming : (f : ℕ) (w : World) (os : List Op) (r : Plain Output Waker) (new : AbstractTask Output Waker) (b : Bool)
        → Follows w (put f new r) → P r → is_some (info_of (task f r) new) ≡ b → Way p end w (queue_if b f ++ os)
        → Then p end os (becomes wakes more f new r)
    becoming f w os r new b follows fit is way =
        subst (λ b. Then p end os (if b then more (appended f (put f new r)) else put f new r)) (sym is)
        (queued f w os (put f new r) follows (teller.like r (put f new r) (sym (put_lying f new r)) fit) b way)

    pub fits : (f : ℕ) (new : AbstractTask Output Waker) (r : Plain Output Waker) → P r → P (becomes wakes more f new r)
    fits f new r fit = by (is_some (info_of (task f r) new))
      where
        put_fits : P (put f new r)
        put_fits = teller.like r (put f new r) (sym (put_lying f new r)) fit

        by : (b : Bool) → P (if b then more (appended f (put f new r)) else put f new r)
        by true = teller.keeps (appended f (put f new r)) (teller.like (put f new r) (appended f (put f new r)) refl put_fits)
        by false = put_fits

    -- a wake by reference
    pub wakes_so : (f : ℕ) (w : World) (os : List Op) (r : Plain Output Waker) → Follows w r → P r → f < length w.tasks
        → Way p end (move_task move.WakeByReference p w f).world ((move_task move.WakeByReference p w f).next ++ os)
        → Then p end os (wake wakes more f r)
    wakes_so f w os r follows fit at way =
        let s = world.task w f in
        let a = waker_in (awaiter_of w f) in
        let al : IsMove (moves.wake_by_reference s) s a (abstract.wake (view s a)) = (wakes_alike s a).0 in
        let tk : task f r ≡ view s a = follows.tasks f at in
        let m =
        moved move.WakeByReference f w os r (abstract.wake (task f r)) refl (λ q g. refl) follows at
        (al.task ∙ ap (λ t. told (abstract.wake t)) (sym tk))
        (woken_stored (awaiter_of w f) s (follows.stored f at)) (wake_calm (task f r) (follows.calm f at)) way in
        becoming f m.world os r (abstract.wake (task f r)) (is_some (moves.wake_by_reference s).owed.schedule) m.follows fit
        (ap (λ t. is_some (info_of t (abstract.wake t))) tk ∙ sym al.queues)
        (subst (λ ops. Way p end m.world (ops ++ os)) (woken_owes (among f w.table) f s) m.way)

    -- a waker that is there goes
    pub releases_so : (f : ℕ) (w : World) (os : List Op) (r : Plain Output Waker) → Follows w r → P r
        → Way p end w (op.Move move.Release f ∷ os) → Then p end os (release wakes more f r)
    releases_so f w os r follows fit way =
        let step = next p end rests (op.Move move.Release f) w os refl way in
        let at : f < length w.tasks = step.has.0 in
        let s = world.task w f in
        let a = waker_in (awaiter_of w f) in
        let al : IsMove (moves.release s) s a (abstract.release (view s a)) = releases_alike s a step.has.1 in
        let tk : task f r ≡ view s a = follows.tasks f at in
        let m =
        moved move.Release f w os r (abstract.release (task f r)) refl (λ q g. refl) follows at
        (al.task ∙ ap (λ t. told (abstract.release t)) (sym tk))
        (released_stored (awaiter_of w f) s (follows.stored f at)) (release_calm (task f r) (follows.calm f at)) step.way in
        becoming f m.world os r (abstract.release (task f r)) (is_some (moves.release s).owed.schedule) m.follows fit
        (ap (λ t. is_some (info_of t (abstract.release t))) tk ∙ sym al.queues)
        (subst (λ ops. Way p end m.world (ops ++ os)) (released_owes (among f w.table) f s) m.way)

    -- a wake by a waker that goes behind it
    pub frees_so : (after : World → World) → ((w : World) (r : Plain Output Waker) → Follows w r → Follows (after w) r) → (f : ℕ)
        (w : World) (os : List Op) (r : Plain Output Waker) → Follows w r → P r → f < length w.tasks
        → Way p end (after (move_task move.Wake p w f).world) ((move_task move.Wake p w f).next ++ os)
        → Then p end os (release wakes more f (wake wakes more f r))
    frees_so after keeps f w os r follows fit at way =
        let s = world.task w f in
        let a = waker_in (awaiter_of w f) in
        let al : IsMove (moves.wake s) s a (abstract.wake (view s a)) = (wakes_alike s a).1 in
        let tk : task f r ≡ view s a = follows.tasks f at in
        let b : Bool = is_some (moves.wake s).owed.schedule in
        let m =
        moved_then after keeps move.Wake f w os r (abstract.wake (task f r)) refl (λ q g. refl) follows at
        (al.task ∙ ap (λ t. told (abstract.wake t)) (sym tk))
        (woken_stored (awaiter_of w f) s (follows.stored f at)) (wake_calm (task f r) (follows.calm f at)) way in
        let woken =
        becoming f m.world (op.Move move.Release f ∷ os) r (abstract.wake (task f r)) b m.follows fit
        (ap (λ t. is_some (info_of t (abstract.wake t))) tk ∙ sym al.queues)
        (regroup b m.world (subst (λ ops. Way p end m.world (ops ++ os)) (used_owes (among f w.table) f s) m.way)) in
        releases_so f woken.world os (wake wakes more f r) woken.follows (fits f (abstract.wake (task f r)) r fit) woken.way
      where
        regroup : (b : Bool) (w : World) → Way p end w ((queue_if b f ++ op.Move move.Release f ∷ []) ++ os)
            → Way p end w (queue_if b f ++ op.Move move.Release f ∷ os)
        regroup true w way = way
        regroup false w way = way

    -- the same in one
    pub uses_so : (f : ℕ) (w : World) (os : List Op) (r : Plain Output Waker) → Follows w r → P r → f < length w.tasks
        → Way p end (move_task move.Wake p w f).world ((move_task move.Wake p w f).next ++ os)
        → Then p end os (used wakes more f r)
    uses_so f w os r follows fit at way =
        let x = get_below r.futures f (subst (λ n. f < n) follows.many at) in
        subst (Then p end os)
        (used_slowly wakes f more (teller.past lower lowers f) r x.0 x.1
        (sym (ap (λ (t : AbstractTask Output Waker). t.infos) (task_is f r x.0 x.1))
        ∙ ap (λ (t : AbstractTask Output Waker). t.infos) (follows.tasks f at)))
        (frees_so (λ w. w) (λ w r follows. follows) f w os r follows fit at way)

    -- a waker is called, and goes
    pub calls_so : (a : Waker) (o : Polled) (k : ℕ) (w : World) (os : List Op) (r : Plain Output Waker) → Follows w r → P r
        → IsKnownWaker w a → Way p end (call_waker p w o a k).world ((call_waker p w o a k).next ++ os)
        → Then p end os (called wakes more a r)
    calls_so (Task g) o k w os r follows fit at way =
        let e = event.WakerCalled p o k (Task g) in
        uses_so g (log w e) os r (logs w r follows e refl) fit at way
    calls_so (Outside x) o k w os r follows fit at way =
        let e = event.WakerCalled p o k (Outside x) in
        record {
          world = log w e;
          follows = sees w r follows e (Calls (Outside x)) refl;
          way = past_outside p end rests x (log w e) os way;
        }

    pub called_fits : (a : Option Waker) (r : Plain Output Waker) → P r → P (on a (called wakes more) r)
    called_fits None r fit = fit
    called_fits (Some (Task g)) r fit = fits g (abstract.release (abstract.wake (task g r))) r fit
    called_fits (Some (Outside x)) r fit = teller.like r (see (Calls (Outside x)) r) refl fit
