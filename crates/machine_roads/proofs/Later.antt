-- A change of a task that is made once its future was queued and one that lies was told: it is the same as if it were made at once.
use Rattle.std.proofs.Common.{◌≡◌, ℕ, ◌++◌, Bool, true, false, [], ◌∷◌, Option, Some, None, is_some, slice_get, slice_set}
use Rattle.std.proofs.Common.{if◌then◌else◌, refl, sym, ap, ◌∙◌}
use Rattle.task_moves.specs.AbstractTask.{AbstractTask, Queued}
use Rattle.task_moves.specs.LocalTask.{info_of, told}
use Rattle.plain_scheduler.specs.State.{Future, Plain}
use Rattle.plain_scheduler.specs.Moves.{appended, becomes, put, task}
use Rattle.machine_roads.proofs.Lists.{set_same, set_twice}
use Rattle.machine_roads.proofs.Puts.{with_task, put_at, put_is, task_is, task_put, mark_put}
use Rattle.machine_roads.proofs.Used.{is_still, put_twice, Comes}

module _ {T A : Type 0} (wakes : A → Option ℕ) (f : ℕ) (h : AbstractTask T A → AbstractTask T A)
    (more : Plain T A → Plain T A)
    (past : (p : Plain T A) (x : Future T A) → slice_get p.futures f ≡ Some x → is_still x.task.phase ≡ true
    → Comes f wakes h (more (put_at f (h x.task) x p)) (more p))
    (p : Plain T A) (x : Future T A) (is : slice_get p.futures f ≡ Some x) (v : AbstractTask T A)
    (again : told (h (told v)) ≡ told (h v)) where
  abbrev queues : AbstractTask T A → Bool
  queues n = is_some (info_of (task f p) n)

  abbrev by_test : Bool → AbstractTask T A → Plain T A
  by_test b n = if b then more (appended f (put f n p)) else put f n p

  abbrev y : Future T A
  y = with_task v x

  abbrev z : Plain T A
  z = appended f (put_at f v x p)

  there : slice_get z.futures f ≡ Some y
  there = set_same p.futures f y x is

  -- a task that is put once is put as it is told
  put_told : (n m : AbstractTask T A) → told n ≡ told m → put f n p ≡ put f m p
  put_told n m same =
      put_is f n p x is
      ∙ (ap (λ t. record p { futures = slice_set p.futures f (record x { task = t }) }) same ∙ sym (put_is f m p x is))

  still : put f (h (task f (put f v p))) (put f v p) ≡ put f (h v) p
  still =
      put_twice f v (h (task f (put f v p))) p x is
      ∙ (ap (λ t. put f (h t) p) (ap (task f) (put_is f v p x is) ∙ task_put f v p x is) ∙ put_told (h (told v)) (h v) again)

  once : put_at f (h y.task) y z ≡ appended f (put f (h v) p)
  once =
      ap (λ fs. record z { futures = fs }) (set_twice p.futures f y (with_task (h y.task) x))
      ∙ (ap (λ t. record z { futures = slice_set p.futures f (record x { task = t }) }) again
      ∙ (ap
      (λ m. record p {
        futures = slice_set p.futures f (with_task (h v) x);
        due = p.due ++ record { future = f; mark = m; keeper = None } ∷ [];
      })
      (mark_put f f v p x is ∙ sym (mark_put f f (h v) p x is))
      ∙ sym (ap (appended f) (put_is f (h v) p x is))))

  moving : v.phase ≡ Queued → put f (h (task f (more z))) (more z) ≡ more (appended f (put f (h v) p))
  moving queued =
      let c = past z y there (ap is_still queued) in
      ap (λ t. put f (h t) (more z)) (task_is f (more z) c.future c.there)
      ∙ (put_is f (h c.future.task) (more z) c.future c.there ∙ (c.same ∙ ap more once))

  by : (b : Bool) → (b ≡ true → v.phase ≡ Queued) → put f (h (task f (by_test b v))) (by_test b v) ≡ by_test b (h v)
  by true queued =
      ap (λ q. put f (h (task f (more (appended f q)))) (more (appended f q))) (put_is f v p x is) ∙ moving (queued refl)
  by false queued = still

  pub later : (b : Bool) → queues v ≡ b → queues (h v) ≡ b → (b ≡ true → v.phase ≡ Queued)
      → put f (h (task f (becomes wakes more f v p))) (becomes wakes more f v p) ≡ becomes wakes more f (h v) p
  later b first second queued =
      ap (λ b. put f (h (task f (by_test b v))) (by_test b v)) first ∙ (by b queued ∙ ap (λ b. by_test b (h v)) (sym second))
