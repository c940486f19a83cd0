-- A task of the plain scheduler in whose place another is put.
use Rattle.std.proofs.Common.{◌≡◌, ℕ, zero, suc, ◌==◌, cond, Bool, true, false, List, [], ◌∷◌}
use Rattle.std.proofs.Common.{Option, Some, None, slice_get, slice_set, refl, sym, ap, subst, ◌∙◌}
use Rattle.executor_parts.specs.declared.mark.Mark.TheVariants.{Plain as PlainMark}
use Rattle.task_moves.specs.AbstractTask.{AbstractTask}
use Rattle.task_moves.specs.LocalTask.{told}
use Rattle.plain_scheduler.specs.State.{Future, Plain}
use Rattle.plain_scheduler.specs.Lists.{on, or}
use Rattle.plain_scheduler.specs.Moves.{put, task, mark, no_task}
use Rattle.plain_scheduler.specs.Calls.{living_from}
use Rattle.machine_roads.proofs.Lists.{set_same, set_other, same_of}

module _ {T A : Type 0} where
  -- the future with this task
  abbrev pub with_task : AbstractTask T A → Future T A → Future T A
  with_task new x = record x { task = told new }

  abbrev pub put_at : ℕ → AbstractTask T A → Future T A → Plain T A → Plain T A
  put_at f new x p = record p { futures = slice_set p.futures f (with_task new x) }

  pub put_is : (f : ℕ) (new : AbstractTask T A) (p : Plain T A) (x : Future T A) → slice_get p.futures f ≡ Some x
      → put f new p ≡ put_at f new x p
  put_is f new p x is = ap (λ (o : Option (Future T A)). on o (λ x p. put_at f new x p) p) is

  pub task_is : (f : ℕ) (p : Plain T A) (x : Future T A) → slice_get p.futures f ≡ Some x → task f p ≡ x.task
  task_is f p x is = ap (λ (o : Option (Future T A)). or o (λ future. future.task) no_task) is

  pub mark_is : (f : ℕ) (p : Plain T A) (x : Future T A) → slice_get p.futures f ≡ Some x → mark f p ≡ x.mark
  mark_is f p x is = ap (λ (o : Option (Future T A)). or o (λ future. future.mark) PlainMark) is

  -- the task that was put, and the others
  pub task_put : (f : ℕ) (new : AbstractTask T A) (p : Plain T A) (x : Future T A) → slice_get p.futures f ≡ Some x
      → task f (put_at f new x p) ≡ told new
  task_put f new p x is =
      task_is f (put_at f new x p) (with_task new x) (set_same p.futures f (with_task new x) x is)

  pub task_past : (f g : ℕ) (new : AbstractTask T A) (p : Plain T A) (x : Future T A) → (f == g) ≡ false
      → task g (put_at f new x p) ≡ task g p
  task_past f g new p x apart =
      ap (λ (o : Option (Future T A)). or o (λ future. future.task) no_task) (set_other p.futures f g (with_task new x) apart)

  pub mark_put : (f g : ℕ) (new : AbstractTask T A) (p : Plain T A) (x : Future T A) → slice_get p.futures f ≡ Some x
      → mark g (put_at f new x p) ≡ mark g p
  mark_put f g new p x is = by (f == g) refl
    where
      by : (b : Bool) → (f == g) ≡ b → mark g (put_at f new x p) ≡ mark g p
      by true same =
          subst (λ g. mark g (put_at f new x p) ≡ mark g p) (same_of f g same)
          (mark_is f (put_at f new x p) (with_task new x) (set_same p.futures f (with_task new x) x is) ∙ sym (mark_is f p x is))
      by false apart =
          ap (λ (o : Option (Future T A)). or o (λ future. future.mark) PlainMark)
          (set_other p.futures f g (with_task new x) apart)

  -- who isn't dropped stays so
  pub living_set : (fs : List (Future T A)) (n i : ℕ) (x y : Future T A) → slice_get fs i ≡ Some x → y.is_dropped ≡ x.is_dropped
      → living_from n (slice_set fs i y) ≡ living_from n fs
  living_set [] n i x y is same = refl
  living_set (z ∷ zs) n zero x y is same =
      ap (λ b. cond b (living_from (suc n) zs) (n ∷ living_from (suc n) zs))
      (same ∙ sym (ap (λ (o : Option (Future T A)). by o) is))
    where
      by : Option (Future T A) → Bool
      by None = false
      by (Some x) = x.is_dropped
  living_set (z ∷ zs) n (suc i) x y is same =
      ap (λ rest. cond z.is_dropped rest (n ∷ rest)) (living_set zs (suc n) i x y is same)

  -- what leaves the tasks
  pub put_by : {B : Type 0} (ask : Plain T A → B) (f : ℕ) (new : AbstractTask T A) (p : Plain T A)
      → ((fs : List (Future T A)) → ask (record p { futures = fs }) ≡ ask p) → ask (put f new p) ≡ ask p
  put_by ask f new p same = by (slice_get p.futures f)
    where
      by : (o : Option (Future T A)) → ask (on o (λ x p. put_at f new x p) p) ≡ ask p
      by None = refl
      by (Some x) = same (slice_set p.futures f (with_task new x))

  pub put_lying : (f : ℕ) (new : AbstractTask T A) (p : Plain T A) → (put f new p).lying ≡ p.lying
  put_lying f new p = put_by (λ p. p.lying) f new p (λ fs. refl)

  -- what is asked of a task is as before, where that is so of the one that is put
  pub put_asks : {B : Type 0} (ask : AbstractTask T A → B) (f g : ℕ) (new : AbstractTask T A) (p : Plain T A)
      → ask (told new) ≡ ask (task g p) → ask (task f (put g new p)) ≡ ask (task f p)
  put_asks ask f g new p same = by (slice_get p.futures g) refl (g == f) refl
    where
      by : (o : Option (Future T A)) → slice_get p.futures g ≡ o → (b : Bool) → (g == f) ≡ b
          → ask (task f (on o (λ x p. put_at g new x p) p)) ≡ ask (task f p)
      by None is b at = refl
      by (Some x) is true at =
          subst (λ f. ask (task f (put_at g new x p)) ≡ ask (task f p)) (same_of g f at) (ap ask (task_put g new p x is) ∙ same)
      by (Some x) is false at = ap ask (task_past g f new p x at)
