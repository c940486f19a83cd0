-- Who is dropped is nothing to the calls on tasks: they do the same to a plain scheduler in which nobody is.
use Rattle.std.proofs.Common.{◌≡◌, ℕ, zero, suc, ◌-◌, ◌≤◌, min, if◌then◌else◌, Bool, true, false, List, [], ◌∷◌, ◌++◌, length, map}
use Rattle.std.proofs.Common.{filter}
use Rattle.std.proofs.Common.{Option, Some, None, is_some, slice_get, slice_set, refl, sym, ap, subst, ◌∙◌}
use Rattle.std.specs.Option.{option_map}
use Rattle.std.proofs.lemmas.Option.{slice_get-map}
use Rattle.executor_parts.specs.declared.mark.Mark.TheVariants.{Plain as PlainMark, Urgent}
use Rattle.task_moves.specs.AbstractTask as abstract
use Rattle.task_moves.specs.AbstractTask.{AbstractTask}
use Rattle.task_moves.specs.LocalTask.{told as told_of, info_of}
use Rattle.solo.specs.declared.names.SoloWaker.{SoloWaker}
use Rattle.solo.specs.declared.names.SoloWaker.TheVariants.{Task as OfTask, Outside}
use Rattle.plain_scheduler.specs.State.{Event, Future, Lying, Choice, Plain}
use Rattle.plain_scheduler.specs.Lists.{any, each, on, or}
use Rattle.plain_scheduler.specs.Moves.{task, mark, put, changed, appended, becomes, called, tell, told_at, is_called, is_common, no_task}
use Rattle.plain_scheduler.specs.Calls as calls
use Rattle.solo_laws.specs.Closing.{undropped, spared}
use Rattle.solo_laws.specs.Road.{wakes}
use Rattle.solo_laws.proofs.Following.Lists.{length_map}

module _ {T A : Type 0} where
  set_undropped : (fs : List (Future T A)) (f : ℕ) (x : Future T A)
      → slice_set (map undropped fs) f (undropped x) ≡ map undropped (slice_set fs f x)
  set_undropped [] f x = refl
  set_undropped (y ∷ ys) zero x = refl
  set_undropped (y ∷ ys) (suc f) x = ap (λ zs. undropped y ∷ zs) (set_undropped ys f x)

  some : (y x : Future T A) → ◌≡◌ {A = Option (Future T A)} (Some y) (Some x) → y ≡ x
  some y x is = ap (λ o. or o (λ z. z) y) is

  -- one that is marked as dropped
  set_dropped : (fs : List (Future T A)) (f : ℕ) (x : Future T A) → slice_get fs f ≡ Some x
      → map undropped (slice_set fs f (record x { is_dropped = true })) ≡ map undropped fs
  set_dropped [] f x is = refl
  set_dropped (y ∷ ys) zero x is = ap (λ z. undropped z ∷ map undropped ys) (sym (some y x is))
  set_dropped (y ∷ ys) (suc f) x is = ap (λ zs. undropped y ∷ zs) (set_dropped ys f x is)

  pub dropped_spared : (f : ℕ) (p : Plain T A) → spared (changed (λ future. record future { is_dropped = true }) f p) ≡ spared p
  dropped_spared f p = by (slice_get p.futures f) refl
    where
      by : (o : Option (Future T A)) → slice_get p.futures f ≡ o
          → spared (on o (λ x p. record p { futures = slice_set p.futures f (record x { is_dropped = true }) }) p) ≡ spared p
      by None is = refl
      by (Some x) is = ap (λ fs. record p { futures = fs }) (set_dropped p.futures f x is)

  pub task_spared : (f : ℕ) (p : Plain T A) → task f (spared p) ≡ task f p
  task_spared f p =
      ap (λ (o : Option (Future T A)). or o (λ future. future.task) no_task) (slice_get-map undropped p.futures f)
      ∙ by (slice_get p.futures f)
    where
      by : (o : Option (Future T A))
          → or (option_map undropped o) (λ future. future.task) no_task ≡ or o (λ future. future.task) no_task
      by None = refl
      by (Some x) = refl

  mark_spared : (f : ℕ) (p : Plain T A) → mark f (spared p) ≡ mark f p
  mark_spared f p =
      ap (λ (o : Option (Future T A)). or o (λ future. future.mark) PlainMark) (slice_get-map undropped p.futures f)
      ∙ by (slice_get p.futures f)
    where
      by : (o : Option (Future T A))
          → or (option_map undropped o) (λ future. future.mark) PlainMark ≡ or o (λ future. future.mark) PlainMark
      by None = refl
      by (Some x) = refl

  pub put_spared : (f : ℕ) (new : AbstractTask T A) (p : Plain T A) → put f new (spared p) ≡ spared (put f new p)
  put_spared f new p =
      ap (λ (o : Option (Future T A)). on o (λ x q. record q { futures = slice_set q.futures f (record x { task = told_of new }) })
      (spared p)) (slice_get-map undropped p.futures f)
      ∙ by (slice_get p.futures f)
    where
      by : (o : Option (Future T A))
          → on (option_map undropped o) (λ x q. record q { futures = slice_set q.futures f (record x { task = told_of new }) }) (spared p)
          ≡ spared (on o (λ x q. record q { futures = slice_set q.futures f (record x { task = told_of new }) }) p)
      by None = refl
      by (Some x) = ap (λ fs. record p { futures = fs }) (set_undropped p.futures f (record x { task = told_of new }))

  appended_spared : (f : ℕ) (p : Plain T A) → appended f (spared p) ≡ spared (appended f p)
  appended_spared f p =
      ap (λ m. record (spared p) { due = p.due ++ record { future = f; mark = m; keeper = None } ∷ [] }) (mark_spared f p)

  pub each_spared : {B : Type 0} (op : B → Plain T A → Plain T A) → ((b : B) (p : Plain T A) → op b (spared p) ≡ spared (op b p))
      → (bs : List B) (p : Plain T A) → each bs op (spared p) ≡ spared (each bs op p)
  each_spared op same [] p = refl
  each_spared op same (b ∷ bs) p = ap (each bs op) (same b p) ∙ each_spared op same bs (op b p)

module _ {T X : Type 0} where
  -- what does the same
  abbrev pub Spares : (Plain T (SoloWaker X) → Plain T (SoloWaker X)) → Type 0
  Spares op = (p : Plain T (SoloWaker X)) → op (spared p) ≡ spared (op p)

  module _ (more : Plain T (SoloWaker X) → Plain T (SoloWaker X)) (same : Spares more) where
    pub becomes_spared : (h : AbstractTask T (SoloWaker X) → AbstractTask T (SoloWaker X)) (f : ℕ)
        → Spares (λ p. becomes wakes more f (h (task f p)) p)
    becomes_spared h f p =
        ap (λ t. if is_some (info_of t (h t)) then more (appended f (put f (h t) (spared p))) else put f (h t) (spared p))
        (task_spared f p)
        ∙ (ap (λ z. if is_some (info_of (task f p) (h (task f p))) then more (appended f z) else z) (put_spared f (h (task f p)) p)
        ∙ by (is_some (info_of (task f p) (h (task f p)))) (put f (h (task f p)) p))
      where
        by : (b : Bool) (z : Plain T (SoloWaker X))
            → (if b then more (appended f (spared z)) else spared z) ≡ spared (if b then more (appended f z) else z)
        by true z = ap more (appended_spared f z) ∙ same (appended f z)
        by false z = refl

    pub called_spared : (w : SoloWaker X) → Spares (called wakes more w)
    called_spared (OfTask t) p = becomes_spared (λ t. abstract.release (abstract.wake t)) t.number p
    called_spared (Outside w) p = refl

    pub calls_spared : (o : Option (SoloWaker X)) → Spares (on o (called wakes more))
    calls_spared None p = refl
    calls_spared (Some w) p = called_spared w p

  pub tell_spared : (c : Choice) → Spares (tell wakes c)
  tell_spared c p = by (any is_called p.lying)
    where
      at : ℕ
      at = min c.tells (length p.lying - 1)

      told : (o : Option (Lying (SoloWaker X)))
          → on o (λ l p. on l.waker (called wakes (λ s. s)) (record p { lying = slice_set p.lying at (record l { waker = None }) }))
          (spared p)
          ≡ spared (on o (λ l p. on l.waker (called wakes (λ s. s))
          (record p { lying = slice_set p.lying at (record l { waker = None }) })) p)
      told None = refl
      told (Some l) =
          calls_spared (λ s. s) (λ p. refl) l.waker (record p { lying = slice_set p.lying at (record l { waker = None }) })

      by : (b : Bool) → (if b then spared p else told_at wakes at (spared p)) ≡ spared (if b then p else told_at wakes at p)
      by true = refl
      by false = told (slice_get p.lying at)

  -- the end of a close
  pub freed_spared : (c : Choice) (f : ℕ) → Spares (calls.freed wakes c f)
  freed_spared c f p =
      ap (becomes_by abstract.release) (becomes_spared (tell wakes c) (tell_spared c) abstract.wake f p)
      ∙ becomes_spared (tell wakes c) (tell_spared c) abstract.release f
      (becomes wakes (tell wakes c) f (abstract.wake (task f p)) p)
    where
      becomes_by : (AbstractTask T (SoloWaker X) → AbstractTask T (SoloWaker X)) → Plain T (SoloWaker X) → Plain T (SoloWaker X)
      becomes_by h p = becomes wakes (tell wakes c) f (h (task f p)) p

  closed_spared : (c : Choice) (f : ℕ) → Spares (calls.closed wakes c f)
  closed_spared c f p =
      ap (λ t. on (abstract.drop_runnable t).called (called wakes (tell wakes c)) (put f (abstract.drop_runnable t).task (spared p)))
      (task_spared f p)
      ∙ (ap (on (abstract.drop_runnable (task f p)).called (called wakes (tell wakes c)))
      (put_spared f (abstract.drop_runnable (task f p)).task p)
      ∙ calls_spared (tell wakes c) (tell_spared c) (abstract.drop_runnable (task f p)).called
      (put f (abstract.drop_runnable (task f p)).task p))

  pub swept_spared : (c : Choice) → Spares (calls.swept wakes c)
  swept_spared c p =
      each_spared (λ d. calls.closed wakes c d.future) (λ d. closed_spared c d.future)
      (filter (is_common Urgent) p.due ++ filter (is_common PlainMark) p.due) (record p { due = [] })

-- of two that differ only in who is dropped
module _ {T X : Type 0} (p w : Plain T (SoloWaker X)) (same : spared p ≡ spared w) where
  pub long : length p.futures ≡ length w.futures
  long =
      sym (length_map undropped p.futures)
      ∙ (ap (λ (z : Plain T (SoloWaker X)). length z.futures) same ∙ length_map undropped w.futures)

  pub few : (n : ℕ) → length p.lying ≤ n → length w.lying ≤ n
  few n many = subst (λ k. k ≤ n) (ap (λ (z : Plain T (SoloWaker X)). length z.lying) same) many

  pub handle_in : (f : ℕ) → (task f p).handle ≡ true → (task f w).handle ≡ true
  handle_in f handle =
      ap (λ (t : AbstractTask T (SoloWaker X)). t.handle)
      (sym (sym (task_spared f p) ∙ (ap (λ (z : Plain T (SoloWaker X)). task f z) same ∙ task_spared f w)))
      ∙ handle

  -- both see the same
  pub seen_same : (op : Plain T (SoloWaker X) → Plain T (SoloWaker X)) → Spares op → (shown others : List (Event T (SoloWaker X)))
      → (op w).events ≡ w.events ++ others → others ≡ shown → (op p).events ≡ p.events ++ shown
  seen_same op spares shown others seen is =
      ap (λ (z : Plain T (SoloWaker X)). z.events) (sym (spares p) ∙ (ap op same ∙ spares w))
      ∙ (seen ∙ (ap (λ es. w.events ++ es) is ∙ ap (λ (z : Plain T (SoloWaker X)). z.events ++ shown) (sym same)))
