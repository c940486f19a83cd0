-- A change of a task that may queue it: a wake, a release of a waker, both, a cancel, a detach. Where it queues the task, that
-- comes
-- last in its queue, which has a place.
use Rattle.std.proofs.Common.{◌≡◌, ℕ, zero, suc, ◌-◌, ◌<◌, ◌==◌, nat_lt, ◌∷◌, ◌&&◌, ◌||◌, Bool, true, false, List, [], length, Option, Some}
use Rattle.std.proofs.Common.{None, slice_get, slice_set, is_some, if◌then◌else◌, refl, sym, ap, subst, ◌∙◌, arith}
use Rattle.std.proofs.lemmas.Bool.Decides.{nat_tests}
use Rattle.slab.specs.Slab.{get, with_value}
use Rattle.executor_parts.specs.declared.mark.Mark.TheVariants.{Plain as PlainMark}
use Rattle.task_moves.specs.AbstractTask as abstract
use Rattle.task_moves.specs.AbstractTask.{AbstractTask, Phase, Idle, Queued, Polling, PollingWoken, Finished}
use Rattle.task_moves.specs.LocalTask.{told as told_of, info_of, is_home, is_queued, with_task}
use Rattle.solo.specs.declared.names.Task.{Task}
use Rattle.solo.specs.declared.names.SoloWaker.{SoloWaker}
use Rattle.solo.specs.declared.names.SoloWaker.TheVariants.{Task as OfTask}
use Rattle.solo.specs.declared.cells.Cell.{Cell}
use Rattle.solo.specs.declared.cells.Cells.{Cells}
use Rattle.solo.specs.declared.solo.Solo.{Solo}
use Rattle.solo.specs.Cells.{Kept, choose, asked, changed_by}
use Rattle.solo.specs.Cells as cells
use Rattle.solo.specs.Turns as turns
use Rattle.plain_scheduler.specs.State.{Due, Future, Plain}
use Rattle.plain_scheduler.specs.Lists.{on}
use Rattle.plain_scheduler.specs.Moves.{put, task, mark, appended, becomes}
use Rattle.solo_laws.specs.Road.{IsTaskOf, TaskIs, IsOver, FollowsBut, beside, HasLife, stands, is_forgotten, wakes as wakes_of}
use Rattle.solo_laws.proofs.Following.Lists.{get_below, length_set}
use Rattle.solo_laws.proofs.Following.Due.{clash, both_true, and_true}
use Rattle.solo_laws.proofs.Following.Cells.{found, of_found, asks_found, changed_found, found_here, with_cell}
use Rattle.solo_laws.proofs.Following.Tasks.{IsChange, queues, none_told, queued_idle, wakes}
use Rattle.solo_laws.proofs.Following.Changing.{task_is, mark_is, kept, turned, lined, Goes}
use Rattle.solo_laws.proofs.Following.Placing.{places}

no_waker : (n : ℕ) → nat_lt 0 n ≡ false → n - 1 ≡ n
no_waker n is = omega (arith, none n is)
  where
    none : (n : ℕ) → nat_lt 0 n ≡ false → n ≡ 0
    none n is = grind (arith, nat_tests)

module _ {T A : Type 0} where
  pub told_over : (t : AbstractTask T A) → IsOver t → IsOver (told_of t)
  told_over t is = record {
    phase = is.phase;
    closed = is.closed;
    handle = is.handle;
    wakers = is.wakers;
    output = is.output;
    awaiter = is.awaiter;
    infos = refl;
  }

  pub stays : (h : AbstractTask T A → AbstractTask T A) → ((t : AbstractTask T A) → IsOver t → h t ≡ t) → (t : AbstractTask T A)
      → IsOver t → IsOver (told_of (h t))
  stays h over t is = subst (λ u. IsOver (told_of u)) (sym (over t is)) (told_over t is)

  put_by : {B : Type 0} (ask : Plain T A → B) (f : ℕ) (new : AbstractTask T A) (p : Plain T A)
      → ((fs : List (Future T A)) → ask (record p { futures = fs }) ≡ ask p) → ask (put f new p) ≡ ask p
  put_by ask f new p same = by (slice_get p.futures f)
    where
      by : (o : Option (Future T A))
          → ask (on o (λ x p. record p { futures = slice_set p.futures f (record x { task = told_of new }) }) p) ≡ ask p
      by None = refl
      by (Some x) = same (slice_set p.futures f (record x { task = told_of new }))

  pub put_long : (f : ℕ) (new : AbstractTask T A) (p : Plain T A) → length (put f new p).futures ≡ length p.futures
  put_long f new p = by (slice_get p.futures f)
    where
      by : (o : Option (Future T A))
          → length (on o (λ x p. record p { futures = slice_set p.futures f (record x { task = told_of new }) }) p).futures
          ≡ length p.futures
      by None = refl
      by (Some x) = length_set p.futures f (record x { task = told_of new })

  pub put_due : (f : ℕ) (new : AbstractTask T A) (p : Plain T A) → (put f new p).due ≡ p.due
  put_due f new p = put_by (λ p. p.due) f new p (λ fs. refl)

  pub put_inside : (f : ℕ) (new : AbstractTask T A) (p : Plain T A) → (put f new p).inside ≡ p.inside
  put_inside f new p = put_by (λ p. p.inside) f new p (λ fs. refl)

  pub put_lying : (f : ℕ) (new : AbstractTask T A) (p : Plain T A) → (put f new p).lying ≡ p.lying
  put_lying f new p = put_by (λ p. p.lying) f new p (λ fs. refl)

module _ {T X : Type 0} where
  -- a change h of a task's state is one of the task that is kept
  changes : (h : AbstractTask T (SoloWaker X) → AbstractTask T (SoloWaker X)) → IsChange h
      → (v : Kept T X) (x : Future T (SoloWaker X)) → IsTaskOf v x
      → IsTaskOf (with_task v (h v.task)) (record x { task = told_of (h x.task) })
  changes h is v x of = record {
    task = ap (λ t. told_of (h t)) of.task;
    mark = of.mark;
    told = refl;
    idle = λ idle. of.idle (is.idle x.task idle);
    done = λ gone. is.done x.task (of.done gone);
    reached = is.reached x.task of.reached;
    there = of.there;
    closing = λ goes. is.closed x.task (of.closing goes);
  }

  -- g is that change, and q whether it queues the task
  abbrev pub Fits : (Kept T X → Kept T X) → (Kept T X → Bool) → (AbstractTask T (SoloWaker X) → AbstractTask T (SoloWaker X))
      → Type 0
  Fits g q h = (v : Kept T X) (x : Future T (SoloWaker X)) → IsTaskOf v x
      → (g v ≡ with_task v (h v.task)) × (q v ≡ queues h v.task)

  untold : (v : Kept T X) → v.task.infos ≡ [] → v ≡ with_task v v.task
  untold v is = ap (λ (infos : List Bool). record v { task = record v.task { infos = infos } }) is

  -- without a waker a release does nothing
  pub released_fits : Fits cells.released cells.release_queues abstract.release
  released_fits v x of = by (cells.has_waker v) refl
    where
      none : v.task.infos ≡ []
      none = ap (λ (t : AbstractTask T (SoloWaker X)). t.infos) of.task ∙ of.told

      same : cells.has_waker v ≡ false → abstract.release v.task ≡ v.task
      same is =
          ap (λ n. abstract.close_forgotten (record v.task { wakers = n })) (no_waker v.task.wakers is)
          ∙ ap (λ b. if b then abstract.close v.task else v.task) (ap (λ t. is_forgotten t) of.task ∙ of.reached)

      by : (b : Bool) → cells.has_waker v ≡ b
          → (choose b (with_task v (abstract.release v.task)) v ≡ with_task v (abstract.release v.task))
          × ((b && queues abstract.release v.task) ≡ queues abstract.release v.task)
      by true is = (refl, refl)
      by false is = (
        untold v none ∙ ap (with_task v) (sym (same is)),
        sym (ap (λ u. is_some (info_of v.task u)) (same is) ∙ none_told v.task),
      )

  pub woken_fits : Fits cells.woken cells.wake_queues abstract.wake
  woken_fits v x of = (refl, refl)

  pub cancelled_fits : Fits cells.cancelled (λ v. is_some (cells.cancel_queues v)) (λ t. (abstract.cancel t).task)
  cancelled_fits v x of = (refl, refl)

  pub detached_fits : Fits cells.detached (λ v. is_some (cells.detach_queues v)) (λ t. (abstract.detach t).task)
  detached_fits v x of = (refl, refl)

  -- a wake and a release
  abbrev pub used_kept : Kept T X → Kept T X
  used_kept v = cells.released (cells.woken v)

  abbrev pub use_queues : Kept T X → Bool
  use_queues v = cells.wake_queues v || cells.release_queues (cells.woken v)

  abbrev pub wake_and_release : AbstractTask T (SoloWaker X) → AbstractTask T (SoloWaker X)
  wake_and_release t = abstract.release (abstract.wake t)

  told_release : (t : AbstractTask T (SoloWaker X)) → told_of (abstract.release (told_of t)) ≡ told_of (abstract.release t)
  told_release t = by (record t { wakers = t.wakers - 1 }) (is_forgotten (record t { wakers = t.wakers - 1 }))
      (abstract.is_idle t.phase)
    where
      closed_if : Bool → AbstractTask T (SoloWaker X) → AbstractTask T (SoloWaker X)
      closed_if c u = record (if c then abstract.queue false u else u) { closed = true }

      by : (u : AbstractTask T (SoloWaker X)) (b c : Bool)
          → told_of (if b then closed_if c (told_of u) else told_of u) ≡ told_of (if b then closed_if c u else u)
      by u true true = refl
      by u true false = refl
      by u false c = refl

  abbrev clean : Phase → Bool → AbstractTask T (SoloWaker X) → AbstractTask T (SoloWaker X)
  clean phase closed t = record t { phase = phase; closed = closed; infos = [] }

  either : (phase : Phase) (closed : Bool) (t : AbstractTask T (SoloWaker X))
      → (queues abstract.wake (clean phase closed t) || queues abstract.release (told_of (abstract.wake (clean phase closed t))))
      ≡ queues wake_and_release (clean phase closed t)
  either phase true t = refl
  either Idle false t = refl
  either Queued false t = refl
  either Polling false t = refl
  either PollingWoken false t = refl
  either Finished false t = refl

  pub used_fits : Fits used_kept use_queues wake_and_release
  used_fits v x of =
      let next = changes abstract.wake wakes v x of in
      let two = released_fits (cells.woken v) (record x { task = told_of (abstract.wake x.task) }) next in
      let none : v.task.infos ≡ [] = ap (λ (t : AbstractTask T (SoloWaker X)). t.infos) of.task ∙ of.told in
      let it : v.task ≡ clean v.task.phase v.task.closed v.task = ap
      (λ (infos : List Bool). record v.task { infos = infos }) none in (
        two.0 ∙ ap (λ t. record v { task = t }) (told_release (abstract.wake v.task)),
        ap (λ b. cells.wake_queues v || b) two.1
            ∙ (ap (λ t. queues abstract.wake t || queues abstract.release (told_of (abstract.wake t))) it
            ∙ (either v.task.phase v.task.closed v.task ∙ sym (ap (λ t. queues wake_and_release t) it))),
      )

module _ {F T X : Type 0} (aside : Option Due) (name : ℕ → Task) where
  -- a task that is there has its future's mark
  pub marks : (f : ℕ) (s : Solo F T X) (p : Plain T (SoloWaker X)) (v : Kept T X) → f < length p.futures
      → FollowsBut aside name s p
      → found (name f) s.cells ≡ Some v → turns.mark_of (name f) s ≡ mark f p
  marks f s p v at r is =
      let x = get_below p.futures f at in
      let same : IsTaskOf v x.0 = subst (λ o. TaskIs o (Some x.0)) is
      (subst (TaskIs (found (name f) s.cells)) x.1 (r.tasks f at)) in
      asks_found cells.mark PlainMark (name f) s.cells
      ∙ (ap (of_found cells.mark PlainMark) is ∙ (same.mark ∙ sym (mark_is f p x.0 x.1)))

  module _ (g : Kept T X → Kept T X) (q : Kept T X → Bool) (h : AbstractTask T (SoloWaker X) → AbstractTask T (SoloWaker X))
      (is : IsChange h) (fits : Fits g q h) where
    goes : (f : ℕ) (s : Solo F T X) (p : Plain T (SoloWaker X)) → Goes aside name g h f s p
    goes f s p v x here at of =
        let e = (fits v x of).0 in
        record {
          is = subst (λ w. IsTaskOf w (record x { task = told_of (h x.task) })) (sym e) (changes h is v x of);
          ready = λ due start.
              let two = both_true (is_home v.future) (is_queued v.task.phase) start in
              subst (λ w. cells.may_start w ≡ true) (sym e)
              (and_true (is_home v.future) (is_queued (h v.task).phase) two.0 (is.queued v.task two.1));
          lent = λ has so. subst (λ w. cells.is_lent w ≡ true) (sym e) so;
          dropping = λ has so. subst (λ w. cells.is_dropping w ≡ true) (sym e) so;
        }

    module _ (f : ℕ) (s : Solo F T X) (p : Plain T (SoloWaker X)) (at : f < length p.futures)
        (r : FollowsBut aside name s p) where
      abbrev now : Solo F T X
      now = turns.turned g (name f) s

      abbrev after : Plain T (SoloWaker X)
      after = put f (h (task f p)) p

      pub next : FollowsBut aside name now after
      next =
          turned aside name g h f s p at (λ gone. stays h is.over (task f p)) (goes f s p)
          (λ t here. r.awaiters f t (is.awaiter (task f p) (OfTask t) here)) r

      -- it asks as the state says
      pub asks : asked q false (name f) s.cells ≡ queues h (task f p)
      asks =
          let x = get_below p.futures f at in
          asks_found q false (name f) s.cells
          ∙ (by (found (name f) s.cells) x.0 (subst (TaskIs (found (name f) s.cells)) x.1 (r.tasks f at))
          ∙ sym (ap (λ t. queues h t) (task_is f p x.0 x.1)))
        where
          by : (o : Option (Kept T X)) (x : Future T (SoloWaker X)) → TaskIs o (Some x) → of_found q false o ≡ queues h x.task
          by None x over = sym (ap (λ u. is_some (info_of x.task u)) (is.over x.task over) ∙ none_told x.task)
          by (Some v) x of = (fits v x of).1 ∙ ap (λ t. queues h t) of.task

      -- where it queues the task, the queue has a place, and both have one more
      pub comes : asked q false (name f) s.cells ≡ true → HasLife 1 s.lines
          → (turns.takes (name f) now ≡ true) × FollowsBut aside name (turns.lined (name f) now) (appended f after)
      comes queued life =
          let k = kept aside name q f s p r at queued in
          let of : IsTaskOf k.0 k.1 = k.5 in
          let e = fits k.0 k.1 of in
          let turn = is.queues k.0.task (sym e.1 ∙ k.4) in
          let home : is_home k.0.future ≡ true =
          of.idle (subst (λ (t : AbstractTask T (SoloWaker X)). abstract.is_idle t.phase ≡ true) of.task turn.0) in
          let here : found (name f) (cells.changed g (name f) s.cells) ≡ Some (g k.0) =
          found_here g (name f) s.cells ∙ ap (changed_found g) k.2 in
          let ready : asked cells.may_start false (name f) (cells.changed g (name f) s.cells) ≡ true =
          asks_found cells.may_start false (name f) (cells.changed g (name f) s.cells)
          ∙ (ap (of_found cells.may_start false) here
          ∙ subst (λ w. cells.may_start w ≡ true) (sym e.0) (and_true (is_home k.0.future)
          (is_queued (h k.0.task).phase) home turn.1)) in
          let none : stands f (beside aside after.due) ≡ false =
          subst (λ due. stands f (beside aside due) ≡ false) (sym (put_due f (h (task f p)) p))
          (waits k.0 k.2 turn.0 (stands f (beside aside p.due)) refl) in
          let below : f < length after.futures = subst (λ n. f < n) (sym (put_long f (h (task f p)) p)) at in
          let place : turns.takes (name f) now ≡ true =
          places aside name now after next f below none ready life (turns.mark_of (name f) now) in (
            place,
            lined aside name f now after place (marks f now after (g k.0) below next here) below none ready next,
          )
        where
          -- one that waits isn't due
          waits : (v : Kept T X) → found (name f) s.cells ≡ Some v → abstract.is_idle v.task.phase ≡ true → (b : Bool)
              → stands f (beside aside p.due) ≡ b
              → b ≡ false
          waits v here idle false due = refl
          waits v here idle true due =
              let start : cells.may_start v ≡ true =
              sym (ap (of_found cells.may_start false) here) ∙
              (sym (asks_found cells.may_start false (name f) s.cells) ∙ (r.ready f due).1) in
              absurd (clash (queued_idle v.task.phase (both_true (is_home v.future) (is_queued v.task.phase) start).1) idle)

      -- and then what follows is done to both
      pub becoming : (S : Solo F T X → Solo F T X) (more : Plain T (SoloWaker X) → Plain T (SoloWaker X)) → HasLife 1 s.lines
          → (turns.takes (name f) now ≡ true → FollowsBut aside name (turns.lined (name f) now) (appended f after)
          → FollowsBut aside name (S now) (more (appended f after)))
          → FollowsBut aside name (choose (asked q false (name f) s.cells) (S now) now) (becomes wakes_of more f (h (task f p)) p)
      becoming S more life follows = by (asked q false (name f) s.cells) refl asks
        where
          by : (b : Bool) → asked q false (name f) s.cells ≡ b → b ≡ queues h (task f p)
              → FollowsBut aside name (choose b (S now) now) (becomes wakes_of more f (h (task f p)) p)
          by false queued same =
              subst (λ b. FollowsBut aside name now (if b then more (appended f after) else after)) same next
          by true queued same =
              let both = comes queued life in
              subst (λ b. FollowsBut aside name (S now) (if b then more (appended f after) else after)) same
              (follows both.0 both.1)

module _ {B : Type 0} where
  set_set : (xs : List B) (i : ℕ) (a b : B) → slice_set (slice_set xs i a) i b ≡ slice_set xs i b
  set_set [] i a b = refl
  set_set (x ∷ xs) zero a b = refl
  set_set (x ∷ xs) (suc i) a b = ap (λ ys. x ∷ ys) (set_set xs i a b)

module _ {T X : Type 0} (a b : Kept T X → Kept T X) (t : Task) where
  -- one change and then another
  pub changed_twice : (s : Cells T X) → cells.changed b t (cells.changed a t s) ≡ cells.changed (λ v. b (a v)) t s
  changed_twice s = by (get s.slab t.key) refl
    where
      by : (o : Option (Cell T X)) → get s.slab t.key ≡ o
          → ◌≡◌ {A = Cells T X} (record { slab = changed_by b t (get (changed_by a t o s.slab) t.key) (changed_by a t o s.slab) })
          (record { slab = changed_by (λ v. b (a v)) t o s.slab })
      by None is = ap (λ o. record { slab = changed_by b t o s.slab }) is
      by (Some c) is =
          let d : Cell T X = record c { task = choose (c.number == t.number) (a c.task) c.task } in
          ap (λ o. record { slab = changed_by b t o (with_value s.slab t.key d) }) (with_cell s.slab t.key c d is).changed
          ∙ (ap (λ slots. record { slab = record s.slab { slots = slots } }) (set_set s.slab.slots t.key (Some d) _)
          ∙ ap (λ task. record { slab = with_value s.slab t.key (record c { task = task }) }) (one (c.number == t.number)))
        where
          one : (is : Bool) → choose is (b (choose is (a c.task) c.task)) (choose is (a c.task) c.task)
              ≡ choose is (b (a c.task)) c.task
          one true = refl
          one false = refl

module _ {T X : Type 0} (a : Kept T X → Kept T X) (t : Task) where
  pub asked_twice : (p q : Kept T X → Bool) (s : Cells T X)
      → (asked p false t s || asked q false t (cells.changed a t s)) ≡ asked (λ v. p v || q (a v)) false t s
  asked_twice p q s =
      ap (λ b. b || asked q false t (cells.changed a t s)) (asks_found p false t s)
      ∙ (ap (λ b. of_found p false (found t s) || b) (asks_found q false t (cells.changed a t s)
      ∙ ap (of_found q false) (found_here a t s))
      ∙ (by (found t s) ∙ sym (asks_found (λ v. p v || q (a v)) false t s)))
    where
      by : (o : Option (Kept T X)) → (of_found p false o || of_found q false (changed_found a o))
          ≡ of_found (λ v. p v || q (a v)) false o
      by None = refl
      by (Some v) = refl
