-- What a change of the world leaves of how it follows the plain scheduler: a task that is put, what is told of, a future that is
-- queued.
use Rattle.std.proofs.Common.{◌≡◌, ℕ, ◌<◌, ◌==◌, Bool, true, false, List, [], ◌∷◌, ◌++◌, length, map}
use Rattle.std.proofs.Common.{Option, Some, None, slice_get, slice_set, if◌then◌else◌, refl, sym, ap, subst, ◌∙◌}
use Rattle.std.proofs.Common.{append_assoc, append-nil}
use Rattle.std.specs.Prelude.{filter}
use Rattle.std.proofs.lemmas.List.{get_or-set_same, get_or-set_other, set-get_or}
use Rattle.std.proofs.lemmas.Option.{slice_get_within}
use Rattle.executor_parts.specs.declared.mark.Mark.{Mark}
use Rattle.executor_parts.specs.declared.mark.Mark.TheVariants.{Plain as PlainMark, Urgent}
use Rattle.executor_parts.specs.Marks.{same_mark}
use Rattle.queue_steps.specs.ClosableQueue.{appended as appended_to}
use Rattle.task_moves.specs.declared.moves.state.State.{State}
use Rattle.task_moves.specs.AbstractTask as abstract
use Rattle.task_moves.specs.AbstractTask.{AbstractTask}
use Rattle.task_moves.specs.LocalTask.{told}
use Rattle.executor_model.specs.declared.event.Event.{Event}
use Rattle.executor_model.specs.declared.op.Awaiter.{Awaiter}
use Rattle.executor_model.specs.declared.op.Waker.{Waker}
use Rattle.executor_model.specs.Trace.{Trace}
use Rattle.executor_model.specs.World.{World, blank, awaiter_of, mark_of, queue_of, put_queue, log, log_if}
use Rattle.executor_model.specs.World as world
use Rattle.plain_scheduler.specs.State.{Due, Future, Plain, Event as Sight}
use Rattle.plain_scheduler.specs.Lists.{on}
use Rattle.plain_scheduler.specs.Moves.{is_common, is_kept, task, mark, put, appended, see}
use Rattle.machine_roads.specs.View.{Output, view, waker_in, task_in}
use Rattle.machine_roads.specs.Seeing.{heard, heard_in, shown}
use Rattle.machine_roads.specs.Road.{Follows, IsStored, futures_in}
use Rattle.machine_roads.proofs.Lists.{get_below, set_own, length_set, map_append, same_of, apart_of}
use Rattle.machine_roads.proofs.Puts.{with_task, put_at, put_is, task_is, task_put, task_past, mark_put, living_set}

heard_last : (es : Trace) (e : Event) → heard_in (es ++ e ∷ []) ≡ heard_in es ++ heard e
heard_last [] e = append-nil (heard e)
heard_last (x ∷ es) e =
    ap (λ seen. heard x ++ seen) (heard_last es e) ∙ sym (append_assoc (heard x) (heard_in es) (heard e))

futures_by : (a : Bool) (e : Due) (ds es : List Due) (rest : List ℕ) → map (λ (d : Due). d.future) es
    ≡ map (λ (d : Due). d.future) ds ++ rest
    → map (λ (d : Due). d.future) (if a then e ∷ es else es) ≡ map (λ (d : Due). d.future) (if a then e ∷ ds else ds) ++ rest
futures_by true e ds es rest is = ap (λ fs. e.future ∷ fs) is
futures_by false e ds es rest is = is

pub futures_last : (test : Due → Bool) (ds : List Due) (d : Due)
    → futures_in test (ds ++ d ∷ []) ≡ futures_in test ds ++ (if test d then d.future ∷ [] else [])
futures_last test [] d = by (test d)
  where
    by : (b : Bool) → map (λ (d : Due). d.future) (if b then d ∷ [] else []) ≡ (if b then d.future ∷ [] else [])
    by true = refl
    by false = refl
futures_last test (e ∷ ds) d =
    futures_by (test e) e (filter test ds) (filter test (ds ++ d ∷ [])) (if test d then d.future ∷ [] else [])
    (futures_last test ds d)

pub futures_append : (test : Due → Bool) (ds es : List Due) → futures_in test (ds ++ es) ≡ futures_in test ds ++ futures_in test es
futures_append test [] es = refl
futures_append test (d ∷ ds) es =
    futures_by (test d) d (filter test ds) (filter test (ds ++ es)) (futures_in test es) (futures_append test ds es)

module _ (w : World) (p : Plain Output Waker) (r : Follows w p) where
  -- what is told of
  pub hears : (e : Event) (events : List (Sight Output Waker)) → heard_in w.trace ++ heard e ≡ map shown events
      → Follows (log w e) (record p { events = events })
  hears e events is = record {
    limit = r.limit;
    kind = r.kind;
    many = r.many;
    places = r.places;
    marked = r.marked;
    tasks = r.tasks;
    stored = r.stored;
    marks = r.marks;
    calm = r.calm;
    table = r.table;
    common = r.common;
    kept = r.kept;
    wakers = r.wakers;
    count = r.count;
    flag = r.flag;
    asleep = r.asleep;
    numbered = r.numbered;
    runs = r.runs;
    waking = r.waking;
    seen = heard_last w.trace e ∙ is;
  }

  pub logs : (e : Event) → heard e ≡ [] → Follows (log w e) p
  logs e none = hears e p.events (ap (λ es. heard_in w.trace ++ es) none ∙ (append-nil (heard_in w.trace) ∙ r.seen))

  pub logs_if : (b : Bool) (e : Event) → heard e ≡ [] → Follows (log_if b w e) p
  logs_if true e none = logs e none
  logs_if false e none = r

  pub sees : (e : Event) (x : Sight Output Waker) → heard e ≡ shown x ∷ [] → Follows (log w e) (see x p)
  sees e x is =
      hears e (p.events ++ x ∷ [])
      (ap (λ es. heard_in w.trace ++ es) is
      ∙ (ap (λ es. es ++ shown x ∷ []) r.seen ∙ sym (map_append shown p.events (x ∷ []))))

  -- a future comes last in the queue of its mark
  pub appends : (f : ℕ) (m : Mark) → mark_of w f ≡ m → Follows (put_queue w m (appended_to (queue_of w m) f)) (appended f p)
  appends f m is = record {
    limit = r.limit;
    kind = r.kind;
    many = r.many;
    places = r.places;
    marked = r.marked;
    tasks = r.tasks;
    stored = r.stored;
    marks = r.marks;
    calm = r.calm;
    table = r.table;
    common = λ n. items n m (r.marks f ∙ is);
    kept = λ q.
        r.kept q
        ∙ sym (futures_last (is_kept q) p.due (record { future = f; mark = mark f p; keeper = None })
        ∙ append-nil (futures_in (is_kept q) p.due));
    wakers = r.wakers;
    count = r.count;
    flag = r.flag;
    asleep = r.asleep;
    numbered = r.numbered;
    runs = r.runs;
    waking = r.waking;
    seen = r.seen;
  }
    where
      last : (n : Mark) → futures_in (is_common n) (appended f p).due
          ≡ futures_in (is_common n) p.due ++ (if same_mark n (mark f p) then f ∷ [] else [])
      last n = futures_last (is_common n) p.due (record { future = f; mark = mark f p; keeper = None })

      items : (n m : Mark) → mark f p ≡ m
          → (queue_of (put_queue w m (appended_to (queue_of w m) f)) n).items ≡ futures_in (is_common n) (appended f p).due
      items PlainMark PlainMark of =
          ap (λ fs. fs ++ f ∷ []) (r.common PlainMark)
          ∙ sym (last PlainMark
          ∙ ap (λ m. futures_in (is_common PlainMark) p.due ++ (if same_mark PlainMark m then f ∷ [] else [])) of)
      items Urgent Urgent of =
          ap (λ fs. fs ++ f ∷ []) (r.common Urgent)
          ∙ sym (last Urgent ∙ ap (λ m. futures_in (is_common Urgent) p.due ++ (if same_mark Urgent m then f ∷ [] else [])) of)
      items PlainMark Urgent of =
          r.common PlainMark
          ∙ sym (last PlainMark
          ∙ (ap (λ m. futures_in (is_common PlainMark) p.due ++ (if same_mark PlainMark m then f ∷ [] else [])) of
          ∙ append-nil (futures_in (is_common PlainMark) p.due)))
      items Urgent PlainMark of =
          r.common Urgent
          ∙ sym (last Urgent
          ∙ (ap (λ m. futures_in (is_common Urgent) p.due ++ (if same_mark Urgent m then f ∷ [] else [])) of
          ∙ append-nil (futures_in (is_common Urgent) p.due)))

-- a task becomes another, and so does who awaits it
module _ (w : World) (p : Plain Output Waker) (r : Follows w p) (f : ℕ) (at : f < length w.tasks) (s : State)
    (a : Option Awaiter) (new : AbstractTask Output Waker) (same : view s (waker_in a) ≡ told new) (stored : IsStored s a)
    (calm : abstract.is_over new.phase ≡ true → new.awaiter ≡ None) where
  abbrev awaits : World
  awaits = world.put_awaiter (world.put w f s) f a

  awaits_long : length awaits.tasks ≡ length w.tasks
  awaits_long = length_set w.tasks f s

  state_at : world.task awaits f ≡ s
  state_at = get_or-set_same w.tasks f s blank at

  state_other : (g : ℕ) → (f == g) ≡ false → world.task awaits g ≡ world.task w g
  state_other g apart = get_or-set_other w.tasks f g s blank (λ is. apart_of f g apart (sym is))

  awaiter_at : awaiter_of awaits f ≡ a
  awaiter_at = get_or-set_same w.awaiters f a None (subst (λ n. f < n) (sym r.places) at)

  awaiter_other : (g : ℕ) → (f == g) ≡ false → awaiter_of awaits g ≡ awaiter_of w g
  awaiter_other g apart = get_or-set_other w.awaiters f g a None (λ is. apart_of f g apart (sym is))

  settles_at : (x : Future Output Waker) → slice_get p.futures f ≡ Some x → Follows awaits (put_at f new x p)
  settles_at x is = record {
    limit = r.limit;
    kind = r.kind;
    many = awaits_long ∙ (r.many ∙ sym (length_set p.futures f (with_task new x)));
    places = length_set w.awaiters f a ∙ (r.places ∙ sym awaits_long);
    marked = r.marked ∙ sym awaits_long;
    tasks = λ g below. task_by g (subst (λ n. g < n) awaits_long below) (f == g) refl;
    stored = λ g below. stored_by g (subst (λ n. g < n) awaits_long below) (f == g) refl;
    marks = λ g. mark_put f g new p x is ∙ r.marks g;
    calm = λ g below. calm_by g (subst (λ n. g < n) awaits_long below) (f == g) refl;
    table = r.table ∙ sym (living_set p.futures 0 f x (with_task new x) is refl);
    common = r.common;
    kept = r.kept;
    wakers = r.wakers;
    count = r.count;
    flag = r.flag;
    asleep = r.asleep;
    numbered = r.numbered;
    runs = r.runs;
    waking = r.waking;
    seen = r.seen;
  }
    where
      task_by : (g : ℕ) → g < length w.tasks → (b : Bool) → (f == g) ≡ b → task g (put_at f new x p) ≡ task_in awaits g
      task_by g below true is_same =
          subst (λ g. task g (put_at f new x p) ≡ task_in awaits g) (same_of f g is_same)
          (task_put f new p x is
          ∙ (sym same
          ∙ (sym (ap (λ t. view t (waker_in a)) state_at)
          ∙ sym (ap (λ o. view (world.task awaits f) (waker_in o)) awaiter_at))))
      task_by g below false apart =
          task_past f g new p x apart
          ∙ (r.tasks g below
          ∙ (sym (ap (λ t. view t (waker_in (awaiter_of w g))) (state_other g apart))
          ∙ sym (ap (λ o. view (world.task awaits g) (waker_in o)) (awaiter_other g apart))))

      stored_by : (g : ℕ) → g < length w.tasks → (b : Bool) → (f == g) ≡ b → IsStored (world.task awaits g) (awaiter_of awaits g)
      stored_by g below true is_same =
          subst (λ g. IsStored (world.task awaits g) (awaiter_of awaits g)) (same_of f g is_same)
          (subst (λ t. IsStored t (awaiter_of awaits f)) (sym state_at)
          (subst (λ o. IsStored s o) (sym awaiter_at) stored))
      stored_by g below false apart =
          subst (λ t. IsStored t (awaiter_of awaits g)) (sym (state_other g apart))
          (subst (λ o. IsStored (world.task w g) o) (sym (awaiter_other g apart)) (r.stored g below))

      calm_by : (g : ℕ) → g < length w.tasks → (b : Bool) → (f == g) ≡ b
          → abstract.is_over (task g (put_at f new x p)).phase ≡ true → (task g (put_at f new x p)).awaiter ≡ None
      calm_by g below true is_same =
          subst
          (λ g. abstract.is_over (task g (put_at f new x p)).phase ≡ true → (task g (put_at f new x p)).awaiter ≡ None)
          (same_of f g is_same)
          (subst (λ (t : AbstractTask Output Waker). abstract.is_over t.phase ≡ true → t.awaiter ≡ None)
          (sym (task_put f new p x is)) calm)
      calm_by g below false apart =
          subst (λ (t : AbstractTask Output Waker). abstract.is_over t.phase ≡ true → t.awaiter ≡ None)
          (sym (task_past f g new p x apart)) (r.calm g below)

  pub settles : Follows awaits (put f new p)
  settles =
      let x = get_below p.futures f (subst (λ n. f < n) r.many at) in
      subst (Follows awaits) (sym (put_is f new p x.0 x.1)) (settles_at x.0 x.1)

-- a task becomes another on both sides
pub puts : (w : World) (p : Plain Output Waker) → Follows w p → (f : ℕ) → f < length w.tasks → (s : State)
    (new : AbstractTask Output Waker) → view s (waker_in (awaiter_of w f)) ≡ told new → IsStored s (awaiter_of w f)
    → (abstract.is_over new.phase ≡ true → new.awaiter ≡ None) → Follows (world.put w f s) (put f new p)
puts w p r f at s new same stored calm =
    subst (λ os. Follows (record (world.put w f s) { awaiters = os }) (put f new p)) (set-get_or w.awaiters f None)
    (settles w p r f at s (awaiter_of w f) new same stored calm)

-- a task that is put again is as it was
pub put_again : (f : ℕ) (w : World) (q : Plain Output Waker) → Follows w q → put f (task f q) q ≡ q
put_again f w q follows = by (slice_get q.futures f) refl
  where
    by : (o : Option (Future Output Waker)) → slice_get q.futures f ≡ o → put f (task f q) q ≡ q
    by None is = ap (λ (o : Option (Future Output Waker)). on o (λ x p. put_at f (task f q) x p) q) is
    by (Some x) is =
        let at : f < length w.tasks = subst (λ n. f < n) (sym follows.many) (slice_get_within q.futures f x is) in
        let none : x.task.infos ≡ [] =
        sym (ap (λ (t : AbstractTask Output Waker). t.infos) (task_is f q x is))
        ∙ ap (λ (t : AbstractTask Output Waker). t.infos) (follows.tasks f at) in
        put_is f (task f q) q x is
        ∙ (ap (λ t. put_at f t x q) (task_is f q x is)
        ∙ (ap (λ (infos : List Bool). record q { futures = slice_set q.futures f (record x { task = record x.task { infos = infos } }) })
        (sym none)
        ∙ ap (λ fs. record q { futures = fs }) (set_own q.futures f x is)))
