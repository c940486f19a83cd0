-- A task that no wake would queue stays so, whatever is done to it or to others; and no call of its waker queues it.
use Rattle.std.proofs.Common.{◌≡◌, ℕ, ◌-◌, ◌==◌, ◌&&◌, not, min, if◌then◌else◌, Bool, true, false, List, length, Option, Some, None}
use Rattle.std.proofs.Common.{is_some, slice_get, slice_set, refl, sym, ap, ◌∙◌}
use Rattle.task_moves.specs.AbstractTask as abstract
use Rattle.task_moves.specs.AbstractTask.{AbstractTask, Phase, Idle, Queued, Polling, PollingWoken, Finished}
use Rattle.task_moves.specs.LocalTask.{told as told_of, info_of, info_from}
use Rattle.solo.specs.declared.names.Task.{Task}
use Rattle.solo.specs.declared.names.SoloWaker.{SoloWaker}
use Rattle.solo.specs.declared.names.SoloWaker.TheVariants.{Task as OfTask, Outside}
use Rattle.plain_scheduler.specs.State.{Due, Future, Lying, Choice, Plain, Calls}
use Rattle.plain_scheduler.specs.Lists.{any, on, or}
use Rattle.plain_scheduler.specs.Moves.{task, put, appended, becomes, called, tell, told_at, is_called, see, no_task}
use Rattle.plain_scheduler.specs.Calls as calls
use Rattle.solo_laws.specs.Closing.{waits}
use Rattle.solo_laws.specs.Road.{wakes}
use Rattle.solo_laws.proofs.Loosening.{woken_waits, released_waits, release_tells}
use Rattle.solo_laws.proofs.Following.Lists.{set_same, set_other}
use Rattle.solo_laws.proofs.Following.Cells.{same_number}
use Rattle.solo_laws.proofs.Following.Using.{wake_and_release}

module _ {T A : Type 0} where
  pub woken_infos : (phase : Phase) (closed : Bool) (t : AbstractTask T A) → (abstract.is_idle phase && not closed) ≡ false
      → (if closed then t else abstract.wake_open phase t).infos ≡ t.infos
  woken_infos phase true t is = refl
  woken_infos Idle false t is = absurd cc
  woken_infos Queued false t is = refl
  woken_infos Polling false t is = refl
  woken_infos PollingWoken false t is = refl
  woken_infos Finished false t is = refl

  abbrev pub Calm : Plain T A → Plain T A → Type 0
  Calm p q = (f : ℕ) → waits (task f p) ≡ false → waits (task f q) ≡ false

  pub put_calm : (f : ℕ) (new : AbstractTask T A) (p : Plain T A) → (waits (task f p) ≡ false → waits new ≡ false) → Calm p (put f new p)
  put_calm f new p keeps g is = by (slice_get p.futures f) refl (f == g) refl
    where
      by : (o : Option (Future T A)) → slice_get p.futures f ≡ o → (b : Bool) → (f == g) ≡ b
          → waits (task g (on o (λ x p. record p { futures = slice_set p.futures f (record x { task = told_of new }) }) p)) ≡ false
      by None here b same = is
      by (Some x) here true same =
          let y : Future T A = record x { task = told_of new } in
          ap (λ (o : Option (Future T A)). waits (or o (λ future. future.task) no_task))
          (ap (slice_get (slice_set p.futures f y)) (sym (same_number f g same)) ∙ set_same p.futures f y x here)
          ∙ keeps (ap (λ n. waits (task n p)) (same_number f g same) ∙ is)
      by (Some x) here false same =
          ap (λ (o : Option (Future T A)). waits (or o (λ future. future.task) no_task))
          (set_other p.futures f g (record x { task = told_of new }) same)
          ∙ is

  -- and this one doesn't wait for a wake from now on
  pub put_settled : (f : ℕ) (new : AbstractTask T A) (p : Plain T A) → waits new ≡ false → waits (task f (put f new p)) ≡ false
  put_settled f new p is = by (slice_get p.futures f) refl
    where
      by : (o : Option (Future T A)) → slice_get p.futures f ≡ o
          → waits (task f (on o (λ x p. record p { futures = slice_set p.futures f (record x { task = told_of new }) }) p)) ≡ false
      by None here = ap (λ (o : Option (Future T A)). waits (or o (λ future. future.task) no_task)) here
      by (Some x) here =
          ap (λ (o : Option (Future T A)). waits (or o (λ future. future.task) no_task))
          (set_same p.futures f (record x { task = told_of new }) x here)
          ∙ is

module _ {T X : Type 0} where
  -- it isn't queued by a waker that is called and goes
  pub use_tells : (t : AbstractTask T (SoloWaker X)) → waits t ≡ false → is_some (info_of t (wake_and_release t)) ≡ false
  use_tells t is =
      ap (λ (infos : List Bool). is_some (info_from (slice_get (wake_and_release t).infos (length infos))))
      (sym (woken_infos t.phase t.closed t is))
      ∙ release_tells (abstract.wake t) (woken_waits t)

  abbrev pub Calms : (Plain T (SoloWaker X) → Plain T (SoloWaker X)) → Type 0
  Calms op = (p : Plain T (SoloWaker X)) → Calm p (op p)

  module _ (more : Plain T (SoloWaker X) → Plain T (SoloWaker X)) (keeps : Calms more) where
    becomes_calm : (f : ℕ) (new : AbstractTask T (SoloWaker X)) (p : Plain T (SoloWaker X))
        → (waits (task f p) ≡ false → waits new ≡ false) → Calm p (becomes wakes more f new p)
    becomes_calm f new p settles g is = by (is_some (info_of (task f p) new))
      where
        by : (b : Bool) → waits (task g (if b then more (appended f (put f new p)) else put f new p)) ≡ false
        by true = keeps (appended f (put f new p)) g (put_calm f new p settles g is)
        by false = put_calm f new p settles g is

    called_calm : (w : SoloWaker X) → Calms (called wakes more w)
    called_calm (OfTask t) p g is =
        becomes_calm t.number (wake_and_release (task t.number p)) p
        (λ so. released_waits (abstract.wake (task t.number p)) (woken_waits (task t.number p))) g is
    called_calm (Outside w) p g is = is

    pub calls_calm : (o : Option (SoloWaker X)) → Calms (on o (called wakes more))
    calls_calm None p g is = is
    calls_calm (Some w) p g is = called_calm w p g is

  pub tell_calm : (c : Choice) → Calms (tell wakes c)
  tell_calm c p g is = by (any is_called p.lying)
    where
      at : ℕ
      at = min c.tells (length p.lying - 1)

      told : (o : Option (Lying (SoloWaker X)))
          → waits (task g (on o (λ l p. on l.waker (called wakes (λ s. s))
          (record p { lying = slice_set p.lying at (record l { waker = None }) })) p)) ≡ false
      told None = is
      told (Some l) =
          calls_calm (λ s. s) (λ p g is. is) l.waker (record p { lying = slice_set p.lying at (record l { waker = None }) }) g is

      by : (b : Bool) → waits (task g (if b then p else told_at wakes at p)) ≡ false
      by true = is
      by false = told (slice_get p.lying at)

  -- one that is woken, and whose waker goes, waits for no wake; nor do others that didn't
  pub freed_calm : (c : Choice) (f : ℕ) → Calms (calls.freed wakes c f)
  freed_calm c f p g is =
      let q = becomes wakes (tell wakes c) f (abstract.wake (task f p)) p in
      becomes_calm (tell wakes c) (tell_calm c) f (abstract.release (task f q)) q (λ so. released_waits (task f q) so) g
      (becomes_calm (tell wakes c) (tell_calm c) f (abstract.wake (task f p)) p (λ so. woken_waits (task f p)) g is)

  pub freed_settled : (c : Choice) (f : ℕ) (p : Plain T (SoloWaker X)) → waits (task f (calls.freed wakes c f p)) ≡ false
  freed_settled c f p =
      let q = becomes wakes (tell wakes c) f (abstract.wake (task f p)) p in
      becomes_calm (tell wakes c) (tell_calm c) f (abstract.release (task f q)) q (λ so. released_waits (task f q) so) f
      (by (is_some (info_of (task f p) (abstract.wake (task f p)))))
    where
      by : (b : Bool) → waits (task f (if b then tell wakes c (appended f (put f (abstract.wake (task f p)) p))
          else put f (abstract.wake (task f p)) p)) ≡ false
      by true =
          tell_calm c (appended f (put f (abstract.wake (task f p)) p)) f
          (put_settled f (abstract.wake (task f p)) p (woken_waits (task f p)))
      by false = put_settled f (abstract.wake (task f p)) p (woken_waits (task f p))

  -- a call that queues nothing
  abbrev pub quietly : SoloWaker X → Plain T (SoloWaker X) → Plain T (SoloWaker X)
  quietly (OfTask t) p = put t.number (wake_and_release (task t.number p)) p
  quietly (Outside w) p = see (Calls (Outside w)) p

  abbrev pub IsCalm : Plain T (SoloWaker X) → Option (SoloWaker X) → Type 0
  IsCalm p o = (t : Task) → o ≡ Some (OfTask t) → waits (task t.number p) ≡ false

  pub calls_quietly : (more : Plain T (SoloWaker X) → Plain T (SoloWaker X)) (o : Option (SoloWaker X)) (p : Plain T (SoloWaker X))
      → IsCalm p o → on o (called wakes more) p ≡ on o quietly p
  calls_quietly more None p is = refl
  calls_quietly more (Some (OfTask t)) p is =
      let new = wake_and_release (task t.number p) in
      ap (λ b. if b then more (appended t.number (put t.number new p)) else put t.number new p) (use_tells (task t.number p) (is t refl))
  calls_quietly more (Some (Outside w)) p is = refl

  -- whatever is due
  pub put_due_apart : (f : ℕ) (new : AbstractTask T (SoloWaker X)) (due : List Due) (p : Plain T (SoloWaker X))
      → put f new (record p { due = due }) ≡ record (put f new p) { due = due }
  put_due_apart f new due p = by (slice_get p.futures f)
    where
      by : (o : Option (Future T (SoloWaker X)))
          → on o (λ x p. record p { futures = slice_set p.futures f (record x { task = told_of new }) }) (record p { due = due })
          ≡ record (on o (λ x p. record p { futures = slice_set p.futures f (record x { task = told_of new }) }) p) { due = due }
      by None = refl
      by (Some x) = refl

  pub quietly_due_apart : (o : Option (SoloWaker X)) (due : List Due) (p : Plain T (SoloWaker X))
      → on o quietly (record p { due = due }) ≡ record (on o quietly p) { due = due }
  quietly_due_apart None due p = refl
  quietly_due_apart (Some (OfTask t)) due p = put_due_apart t.number (wake_and_release (task t.number p)) due p
  quietly_due_apart (Some (Outside w)) due p = refl
