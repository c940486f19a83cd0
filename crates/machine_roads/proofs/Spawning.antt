-- A future that is accepted: it has the next number, and comes last in the table.
use Rattle.std.proofs.Common.{◌≡◌, ℕ, suc, ◌+◌, ◌<◌, ◌≤◌, ◌++◌, cond, Bool, true, false, List, [], ◌∷◌, length, Option, None}
use Rattle.std.proofs.Common.{if◌then◌else◌, refl, sym, ap, subst, ◌∙◌, arith}
use Rattle.std.proofs.lemmas.List.{get_or_past}
use Rattle.std.proofs.lemmas.Option.{slice_get_past}
use Rattle.executor_parts.specs.declared.mark.Mark.{Mark}
use Rattle.executor_parts.specs.declared.mark.Mark.TheVariants.{Plain as PlainMark}
use Rattle.task_moves.specs.AbstractTask as abstract
use Rattle.task_moves.specs.AbstractTask.{AbstractTask}
use Rattle.executor_model.specs.declared.op.Waker.{Waker}
use Rattle.executor_model.specs.Acts.{entered}
use Rattle.executor_model.specs.World.{World, awaiter_of, blank, mark_of}
use Rattle.executor_model.specs.World as world
use Rattle.plain_scheduler.specs.State.{Future, Plain}
use Rattle.plain_scheduler.specs.Lists.{or}
use Rattle.plain_scheduler.specs.Moves.{mark, no_task, task}
use Rattle.plain_scheduler.specs.Calls.{living_from}
use Rattle.machine_roads.specs.View.{Output, view, waker_in, task_in}
use Rattle.machine_roads.specs.Road.{Follows, IsStored}
use Rattle.machine_roads.proofs.Lists.{get_before, get_last, or_before, or_last, length_last, Where, Before, Last, Past, where_is}

living_by : (n m : ℕ) (b : Bool) (ns ms : List ℕ) → ns ≡ ms ++ (n + suc m) ∷ []
    → cond b ns (n ∷ ns) ≡ cond b ms (n ∷ ms) ++ (n + suc m) ∷ []
living_by n m true ns ms is = is
living_by n m false ns ms is = ap (λ ns. n ∷ ns) is

-- who comes last isn't dropped
living_last : {T A : Type 0} (n : ℕ) (fs : List (Future T A)) (x : Future T A) → x.is_dropped ≡ false
    → living_from n (fs ++ x ∷ []) ≡ living_from n fs ++ (n + length fs) ∷ []
living_last n [] x is = ap (λ b. cond b [] (n ∷ [])) is ∙ ap (λ m. m ∷ []) (none n)
  where
    none : (n : ℕ) → n ≡ n + 0
    none n = omega arith
living_last n (y ∷ ys) x is =
    living_by n (length ys) y.is_dropped (living_from (suc n) (ys ++ x ∷ [])) (living_from (suc n) ys)
    (living_last (suc n) ys x is ∙ ap (λ m. living_from (suc n) ys ++ m ∷ []) (more n (length ys)))
  where
    more : (n m : ℕ) → suc n + m ≡ n + suc m
    more n m = omega arith

module _ (w : World) (p : Plain Output Waker) (r : Follows w p) (m : Mark) where
  abbrev n : ℕ
  n = length w.tasks

  abbrev pub entered_world : World
  entered_world =
      record w {
        tasks = w.tasks ++ entered w.is_static ∷ [];
        awaiters = w.awaiters ++ None ∷ [];
        inside = w.inside ++ true ∷ [];
        marks = w.marks ++ m ∷ [];
        table = w.table ++ length w.tasks ∷ [];
      }

  abbrev new : Future Output Waker
  new = record { task = abstract.spawned (if p.is_static then 0 else 1); mark = m; is_dropped = false }

  abbrev q : Plain Output Waker
  q = record p { futures = p.futures ++ new ∷ [] }

  its_view : (b : Bool) → abstract.spawned (if b then 0 else 1) ≡ view (entered b) None
  its_view true = refl
  its_view false = refl

  its_marks : (b : Bool) → IsStored (entered b) None
  its_marks true = record { awaiter = refl; registering = refl; notifying = refl }
  its_marks false = record { awaiter = refl; registering = refl; notifying = refl }

  task_before : (f : ℕ) → f < n → task f q ≡ task f p
  task_before f below =
      ap (λ (o : Option (Future Output Waker)). or o (λ future. future.task) no_task)
      (get_before p.futures new f (subst (λ n. f < n) r.many below))

  awaiter_before : (f : ℕ) → f < n → awaiter_of entered_world f ≡ awaiter_of w f
  awaiter_before f below = or_before w.awaiters None None f (subst (λ n. f < n) (sym r.places) below)

  pub enters : Follows entered_world q
  enters = record {
    limit = r.limit;
    kind = r.kind;
    many = length_last w.tasks (entered w.is_static) ∙ (ap suc r.many ∙ sym (length_last p.futures new));
    places =
        length_last w.awaiters None ∙ (ap suc r.places ∙ sym (length_last w.tasks (entered w.is_static)));
    marked = length_last w.marks m ∙ (ap suc r.marked ∙ sym (length_last w.tasks (entered w.is_static)));
    tasks = λ f below. task_by f (subst (λ n. f < n) (length_last w.tasks (entered w.is_static)) below) (where_is n f);
    stored = λ f below. stored_by f (subst (λ n. f < n) (length_last w.tasks (entered w.is_static)) below) (where_is n f);
    marks = λ f. mark_by f (where_is n f);
    calm = λ f below. calm_by f (subst (λ n. f < n) (length_last w.tasks (entered w.is_static)) below) (where_is n f);
    table =
        ap (λ fs. fs ++ length w.tasks ∷ []) r.table
        ∙ (ap (λ k. living_from 0 p.futures ++ k ∷ []) (r.many ∙ zero_more (length p.futures))
        ∙ sym (living_last 0 p.futures new refl));
    common = r.common;
    kept = r.kept;
    wakers = r.wakers;
    count = r.count;
    flag = r.flag;
    asleep = r.asleep;
    numbered = r.numbered;
    runs = r.runs;
    waking = r.waking;
    seen = r.seen;
  }
    where
      zero_more : (k : ℕ) → k ≡ 0 + k
      zero_more k = omega arith

      last_awaiter : awaiter_of entered_world n ≡ None
      last_awaiter = subst (λ k. awaiter_of entered_world k ≡ None) r.places (or_last w.awaiters None None)

      task_by : (f : ℕ) → f < suc n → Where n f → task f q ≡ task_in entered_world f
      task_by f below (Before is) =
          task_before f is
          ∙ (r.tasks f is
          ∙ (sym (ap (λ s. view s (waker_in (awaiter_of w f))) (or_before w.tasks (entered w.is_static) blank f is))
          ∙ sym (ap (λ a. view (world.task entered_world f) (waker_in a)) (awaiter_before f is))))
      task_by f below (Past is) = absurd (omega (arith, below, is))
      task_by f below (Last is) =
          subst (λ f. task f q ≡ task_in entered_world f) is
          (subst (λ k. task k q ≡ task_in entered_world n) (sym r.many)
          (ap (λ (o : Option (Future Output Waker)). or o (λ future. future.task) no_task) (get_last p.futures new)
          ∙ (ap (λ b. abstract.spawned (if b then 0 else 1)) (sym r.kind)
          ∙ (its_view w.is_static
          ∙ (sym (ap (λ s. view s None) (or_last w.tasks (entered w.is_static) blank))
          ∙ sym (ap (λ a. view (world.task entered_world n) (waker_in a)) last_awaiter))))))

      stored_by : (f : ℕ) → f < suc n → Where n f → IsStored (world.task entered_world f) (awaiter_of entered_world f)
      stored_by f below (Before is) =
          subst (λ s. IsStored s (awaiter_of entered_world f)) (sym (or_before w.tasks (entered w.is_static) blank f is))
          (subst (λ a. IsStored (world.task w f) a) (sym (awaiter_before f is)) (r.stored f is))
      stored_by f below (Past is) = absurd (omega (arith, below, is))
      stored_by f below (Last is) =
          subst (λ f. IsStored (world.task entered_world f) (awaiter_of entered_world f)) is
          (subst (λ s. IsStored s (awaiter_of entered_world n)) (sym (or_last w.tasks (entered w.is_static) blank))
          (subst (λ a. IsStored (entered w.is_static) a) (sym last_awaiter) (its_marks w.is_static)))

      calm_by : (f : ℕ) → f < suc n → Where n f → abstract.is_over (task f q).phase ≡ true → (task f q).awaiter ≡ None
      calm_by f below (Before is) =
          subst (λ (t : AbstractTask Output Waker). abstract.is_over t.phase ≡ true → t.awaiter ≡ None) (sym (task_before f is))
          (r.calm f is)
      calm_by f below (Past is) = absurd (omega (arith, below, is))
      calm_by f below (Last is) =
          subst (λ f. abstract.is_over (task f q).phase ≡ true → (task f q).awaiter ≡ None) is
          (subst (λ k. abstract.is_over (task k q).phase ≡ true → (task k q).awaiter ≡ None) (sym r.many)
          (subst (λ (t : AbstractTask Output Waker). abstract.is_over t.phase ≡ true → t.awaiter ≡ None)
          (sym (ap (λ (o : Option (Future Output Waker)). or o (λ future. future.task) no_task) (get_last p.futures new)))
          (λ over. refl)))

      mark_by : (f : ℕ) → Where n f → mark f q ≡ mark_of entered_world f
      mark_by f (Before is) =
          ap (λ (o : Option (Future Output Waker)). or o (λ future. future.mark) PlainMark)
          (get_before p.futures new f (subst (λ n. f < n) r.many is))
          ∙ (r.marks f ∙ sym (or_before w.marks m PlainMark f (subst (λ n. f < n) (sym r.marked) is)))
      mark_by f (Last is) =
          subst (λ f. mark f q ≡ mark_of entered_world f) is
          (subst (λ k. mark k q ≡ mark_of entered_world n) (sym r.many)
          (ap (λ (o : Option (Future Output Waker)). or o (λ future. future.mark) PlainMark) (get_last p.futures new)
          ∙ sym (subst (λ k. mark_of entered_world k ≡ m) r.marked (or_last w.marks m PlainMark))))
      mark_by f (Past is) =
          ap (λ (o : Option (Future Output Waker)). or o (λ future. future.mark) PlainMark)
          (slice_get_past (p.futures ++ new ∷ []) f (at_most (length p.futures) f (subst (λ n. n < f) r.many is)
          (length_last p.futures new)))
          ∙ sym (get_or_past (w.marks ++ m ∷ []) f PlainMark
          (at_most (length w.marks) f (subst (λ n. n < f) (sym r.marked) is) (length_last w.marks m)))
        where
          at_most : {k : ℕ} (l f : ℕ) → l < f → k ≡ suc l → k ≤ f
          at_most l f is same = omega (arith, is, same)
