-- What changes of tasks do is the same in whatever users' code they stand.
use Rattle.std.proofs.Common.{◌≡◌, ℕ, ◌-◌, cond, if◌then◌else◌, min, Bool, true, false, List, length, Option, Some, None, slice_get}
use Rattle.std.proofs.Common.{slice_set, is_some, refl, ap, ◌∙◌}
use Rattle.task_moves.specs.AbstractTask as abstract
use Rattle.task_moves.specs.AbstractTask.{AbstractTask}
use Rattle.task_moves.specs.LocalTask.{told as told_of, info_of}
use Rattle.solo.specs.declared.names.SoloWaker.{SoloWaker}
use Rattle.solo.specs.declared.names.SoloWaker.TheVariants.{Task as OfTask, Outside}
use Rattle.plain_scheduler.specs.State.{Future, Lying, Choice, Code, Plain}
use Rattle.plain_scheduler.specs.Lists.{on, any}
use Rattle.plain_scheduler.specs.Moves.{put, task, changed, appended, becomes, called, tell, told_at, is_called}
use Rattle.plain_scheduler.specs.Takes as takes
use Rattle.solo_laws.specs.Road.{wakes}

module _ {T X : Type 0} where
  -- one that lies is called
  abbrev up : ℕ → Lying (SoloWaker X) → Plain T (SoloWaker X) → Plain T (SoloWaker X)
  up at l p = record p { lying = slice_set p.lying at (record l { waker = None }) }

module _ {T X : Type 0} (inside : List (Code T (SoloWaker X))) where
  abbrev pub within : Plain T (SoloWaker X) → Plain T (SoloWaker X)
  within p = record p { inside = inside }

  put_within : (f : ℕ) (new : AbstractTask T (SoloWaker X)) (p : Plain T (SoloWaker X))
      → put f new (within p) ≡ within (put f new p)
  put_within f new p = by (slice_get p.futures f)
    where
      by : (o : Option (Future T (SoloWaker X)))
          → on o (λ x p. record p { futures = slice_set p.futures f (record x { task = told_of new }) }) (within p)
          ≡ within (on o (λ x p. record p { futures = slice_set p.futures f (record x { task = told_of new }) }) p)
      by None = refl
      by (Some x) = refl

  module _ (more : Plain T (SoloWaker X) → Plain T (SoloWaker X))
      (same : (p : Plain T (SoloWaker X)) → more (within p) ≡ within (more p)) where
    pub becomes_within : (f : ℕ) (new : AbstractTask T (SoloWaker X)) (p : Plain T (SoloWaker X))
        → becomes wakes more f new (within p) ≡ within (becomes wakes more f new p)
    becomes_within f new p = by (is_some (info_of (task f p) new))
      where
        by : (b : Bool) → (if b then more (appended f (put f new (within p))) else put f new (within p))
            ≡ within (if b then more (appended f (put f new p)) else put f new p)
        by true = ap (λ q. more (appended f q)) (put_within f new p) ∙ same (appended f (put f new p))
        by false = put_within f new p

  quiet_within : (w : SoloWaker X) (p : Plain T (SoloWaker X))
      → called wakes (λ s. s) w (within p) ≡ within (called wakes (λ s. s) w p)
  quiet_within (OfTask t) p = becomes_within (λ s. s) (λ s. refl) t.number (abstract.release (abstract.wake (task t.number p))) p
  quiet_within (Outside w) p = refl

  told_at_within : (at : ℕ) (p : Plain T (SoloWaker X)) → told_at wakes at (within p) ≡ within (told_at wakes at p)
  told_at_within at p = by (slice_get p.lying at)
    where
      calls : (l : Lying (SoloWaker X)) (o : Option (SoloWaker X))
          → on o (called wakes (λ s. s)) (up at l (within p)) ≡ within (on o (called wakes (λ s. s)) (up at l p))
      calls l None = refl
      calls l (Some w) = quiet_within w (up at l p)

      by : (o : Option (Lying (SoloWaker X)))
          → on o (λ l p. on l.waker (called wakes (λ s. s)) (up at l p)) (within p)
          ≡ within (on o (λ l p. on l.waker (called wakes (λ s. s)) (up at l p)) p)
      by None = refl
      by (Some l) = calls l l.waker

  pub tell_within : (c : Choice) (p : Plain T (SoloWaker X)) → tell wakes c (within p) ≡ within (tell wakes c p)
  tell_within c p = by (any is_called p.lying)
    where
      by : (b : Bool) → cond b (within p) (told_at wakes (min c.tells (length p.lying - 1)) (within p))
          ≡ within (cond b p (told_at wakes (min c.tells (length p.lying - 1)) p))
      by true = refl
      by false = told_at_within (min c.tells (length p.lying - 1)) p

  -- the future is dropped, and the scheduler's waker given up
  pub drops_within : (c : Choice) (f : ℕ) (p : Plain T (SoloWaker X))
      → takes.given_up wakes c f (changed (λ future. record future { is_dropped = true }) f (within p))
      ≡ within (takes.given_up wakes c f (changed (λ future. record future { is_dropped = true }) f p))
  drops_within c f p =
      ap (takes.given_up wakes c f) (by (slice_get p.futures f))
      ∙ gives (changed (λ future. record future { is_dropped = true }) f p)
    where
      by : (o : Option (Future T (SoloWaker X)))
          → on o (λ x p. record p { futures = slice_set p.futures f (record x { is_dropped = true }) }) (within p)
          ≡ within (on o (λ x p. record p { futures = slice_set p.futures f (record x { is_dropped = true }) }) p)
      by None = refl
      by (Some x) = refl

      gives : (q : Plain T (SoloWaker X)) → takes.given_up wakes c f (within q) ≡ within (takes.given_up wakes c f q)
      gives q = if_static q.is_static
        where
          if_static : (b : Bool)
              → (if b then within q
              else becomes wakes (takes.tell wakes c) f (abstract.release (task f q)) (within q))
              ≡ within (if b then q else becomes wakes (takes.tell wakes c) f (abstract.release (task f q)) q)
          if_static true = refl
          if_static false = becomes_within (takes.tell wakes c) (tell_within c) f (abstract.release (task f q)) q
