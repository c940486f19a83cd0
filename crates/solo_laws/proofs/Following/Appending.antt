-- What a tell and a getting up append to what is due doesn't hang on what is due before, and no run keeps it.
use Rattle.std.proofs.Common.{◌≡◌, ℕ, ◌-◌, if◌then◌else◌, min, Bool, true, false, List, [], ◌∷◌, ◌++◌, length, filter, find, Option, Some}
use Rattle.std.proofs.Common.{None}
use Rattle.std.proofs.Common.{slice_get, slice_set, is_some, append-nil, append_assoc, refl, sym, ap, ◌∙◌}
use Rattle.task_moves.specs.AbstractTask as abstract
use Rattle.task_moves.specs.AbstractTask.{AbstractTask}
use Rattle.task_moves.specs.LocalTask.{info_of, told as told_of}
use Rattle.solo.specs.declared.names.SoloWaker.{SoloWaker}
use Rattle.solo.specs.declared.names.SoloWaker.TheVariants.{Task as OfTask, Outside}
use Rattle.plain_scheduler.specs.State.{Calls, Choice, Due, Future, Lying, Plain, Who}
use Rattle.plain_scheduler.specs.Lists.{any, on, without}
use Rattle.plain_scheduler.specs.Moves.{appended, becomes, called, is_called, is_kept, let_go, lies, mark, put, see, task, tell, told_at}
use Rattle.plain_scheduler.specs.Moves.{up}
use Rattle.solo_laws.specs.Road.{wakes}

both_free : (k : ℕ) (a b : List Due) → filter (is_kept k) a ≡ [] → filter (is_kept k) b ≡ [] → filter (is_kept k) (a ++ b) ≡ []
both_free k [] b none other = other
both_free k (d ∷ a) b none other = by (is_kept k d) none (both_free k a b)
  where
    by : (c : Bool) → (if c then d ∷ filter (is_kept k) a else filter (is_kept k) a) ≡ []
        → (filter (is_kept k) a ≡ [] → filter (is_kept k) b ≡ [] → filter (is_kept k) (a ++ b) ≡ [])
        → (if c then d ∷ filter (is_kept k) (a ++ b) else filter (is_kept k) (a ++ b)) ≡ []
    by true none rest = absurd cc
    by false none rest = rest none other

module _ {T X : Type 0} where
  abbrev pub with_due : List Due → Plain T (SoloWaker X) → Plain T (SoloWaker X)
  with_due ds p = record p { due = ds }

  pub record Appends (op : Plain T (SoloWaker X) → Plain T (SoloWaker X)) (p : Plain T (SoloWaker X)) : Type 0 where
    pub tail : List Due
    pub free : (k : ℕ) → filter (is_kept k) tail ≡ []
    pub is : (ds : List Due) → op (with_due ds p) ≡ with_due (ds ++ tail) (op p)

  -- one that leaves what is due
  nothing : (op : Plain T (SoloWaker X) → Plain T (SoloWaker X)) (p : Plain T (SoloWaker X))
      → ((ds : List Due) → op (with_due ds p) ≡ with_due ds (op p)) → Appends op p
  nothing op p same = record {
    tail = [];
    free = λ k. refl;
    is = λ ds. same ds ∙ ap (λ ds. with_due ds (op p)) (sym (append-nil ds));
  }

  -- one after the other
  and_so : (one two : Plain T (SoloWaker X) → Plain T (SoloWaker X)) (p : Plain T (SoloWaker X)) → Appends one p → Appends two (one p)
      → Appends (λ p. two (one p)) p
  and_so one two p a b = record {
    tail = a.tail ++ b.tail;
    free = λ k. both_free k a.tail b.tail (a.free k) (b.free k);
    is = λ ds.
        ap two (a.is ds) ∙ (b.is (ds ++ a.tail) ∙ ap (λ ds. with_due ds (two (one p))) (append_assoc ds a.tail b.tail));
  }

  put_appends : (f : ℕ) (new : AbstractTask T (SoloWaker X)) (p : Plain T (SoloWaker X)) → Appends (put f new) p
  put_appends f new p = nothing (put f new) p (λ ds. by ds (slice_get p.futures f))
    where
      put_by : Option (Future T (SoloWaker X)) → Plain T (SoloWaker X) → Plain T (SoloWaker X)
      put_by o p = on o (λ x p. record p { futures = slice_set p.futures f (record x { task = told_of new }) }) p

      by : (ds : List Due) (o : Option (Future T (SoloWaker X))) → put_by o (with_due ds p) ≡ with_due ds (put_by o p)
      by ds None = refl
      by ds (Some x) = refl

  appended_appends : (f : ℕ) (p : Plain T (SoloWaker X)) → Appends (appended f) p
  appended_appends f p = record {
    tail = record { future = f; mark = mark f p; keeper = None } ∷ [];
    free = λ k. refl;
    is = λ ds. refl;
  }

  module _ (more : Plain T (SoloWaker X) → Plain T (SoloWaker X)) (appends : (p : Plain T (SoloWaker X)) → Appends more p) where
    becomes_appends : (f : ℕ) (h : AbstractTask T (SoloWaker X) → AbstractTask T (SoloWaker X)) (p : Plain T (SoloWaker X))
        → Appends (λ p. becomes wakes more f (h (task f p)) p) p
    becomes_appends f h p = by (is_some (info_of (task f p) new)) refl
      where
        new : AbstractTask T (SoloWaker X)
        new = h (task f p)

        queued : Appends (λ p. more (appended f (put f new p))) p
        queued =
            and_so (λ p. appended f (put f new p)) more p
            (and_so (put f new) (appended f) p (put_appends f new p) (appended_appends f (put f new p)))
            (appends (appended f (put f new p)))

        one : Bool → Plain T (SoloWaker X) → Plain T (SoloWaker X)
        one b p = if b then more (appended f (put f new p)) else put f new p

        by : (b : Bool) → is_some (info_of (task f p) new) ≡ b → Appends (λ p. becomes wakes more f (h (task f p)) p) p
        by true is = record {
          tail = queued.tail;
          free = queued.free;
          is = λ ds.
              ap (λ b. one b (with_due ds p)) is
              ∙ (queued.is ds ∙ sym (ap (λ b. with_due (ds ++ queued.tail) (one b p)) is));
        }
        by false is =
            let it = put_appends f new p in
            record {
              tail = it.tail;
              free = it.free;
              is = λ ds.
                  ap (λ b. one b (with_due ds p)) is ∙ (it.is ds ∙ sym (ap (λ b. with_due (ds ++ it.tail) (one b p)) is));
            }

    called_appends : (w : SoloWaker X) (p : Plain T (SoloWaker X)) → Appends (called wakes more w) p
    called_appends (OfTask t) p = becomes_appends t.number (λ u. abstract.release (abstract.wake u)) p
    called_appends (Outside w) p = nothing (see (Calls (Outside w))) p (λ ds. refl)

    let_go_appends : (w : SoloWaker X) (p : Plain T (SoloWaker X)) → Appends (let_go wakes more w) p
    let_go_appends (OfTask t) p = becomes_appends t.number (λ u. abstract.release u) p
    let_go_appends (Outside w) p = nothing (λ p. p) p (λ ds. refl)

  -- as a sleeper is called, or gets up
  set_appends : (lying : List (Lying (SoloWaker X))) (op : Plain T (SoloWaker X) → Plain T (SoloWaker X)) (p : Plain T (SoloWaker X))
      → Appends op (record p { lying = lying }) → Appends (λ p. op (record p { lying = lying })) p
  set_appends lying op p a = record { tail = a.tail; free = a.free; is = λ ds. a.is ds }

  module _ (c : Choice) where
    told_at_appends : (at : ℕ) (p : Plain T (SoloWaker X)) → Appends (told_at wakes at) p
    told_at_appends at p = by (slice_get p.lying at) refl
      where
        lain : Lying (SoloWaker X) → List (Lying (SoloWaker X))
        lain l = slice_set p.lying at (record l { waker = None })

        one : Option (Lying (SoloWaker X)) → Plain T (SoloWaker X) → Plain T (SoloWaker X)
        one o p = on o (λ l p. on l.waker (called wakes (λ s. s)) (record p { lying = slice_set p.lying at (record l { waker = None }) })) p

        calls : (l : Lying (SoloWaker X)) (o : Option (SoloWaker X))
            → Appends (λ p. on o (called wakes (λ s. s)) (record p { lying = lain l })) p
        calls l None = set_appends (lain l) (λ p. p) p (nothing (λ p. p) (record p { lying = lain l }) (λ ds. refl))
        calls l (Some w) =
            set_appends (lain l) (called wakes (λ s. s) w) p
            (called_appends (λ s. s) (λ p. nothing (λ s. s) p (λ ds. refl)) w (record p { lying = lain l }))

        by : (o : Option (Lying (SoloWaker X))) → slice_get p.lying at ≡ o → Appends (told_at wakes at) p
        by None is =
            nothing (told_at wakes at) p (λ ds. ap (λ o. one o (with_due ds p)) is ∙ sym (ap (λ o. with_due ds (one o p)) is))
        by (Some l) is =
            let it = calls l l.waker in
            record {
              tail = it.tail;
              free = it.free;
              is = λ ds. ap (λ o. one o (with_due ds p)) is ∙ (it.is ds ∙ sym (ap (λ o. with_due (ds ++ it.tail) (one o p)) is));
            }

    pub tell_appends : (p : Plain T (SoloWaker X)) → Appends (tell wakes c) p
    tell_appends p = by (any is_called p.lying) refl
      where
        at : ℕ
        at = min c.tells (length p.lying - 1)

        one : Bool → Plain T (SoloWaker X) → Plain T (SoloWaker X)
        one b p = if b then p else told_at wakes (min c.tells (length p.lying - 1)) p

        by : (b : Bool) → any is_called p.lying ≡ b → Appends (tell wakes c) p
        by true is =
            nothing (tell wakes c) p (λ ds. ap (λ b. one b (with_due ds p)) is ∙ sym (ap (λ b. with_due ds (one b p)) is))
        by false is =
            let it = told_at_appends at p in
            record {
              tail = it.tail;
              free = it.free;
              is = λ ds. ap (λ b. one b (with_due ds p)) is ∙ (it.is ds ∙ sym (ap (λ b. with_due (ds ++ it.tail) (one b p)) is));
            }

    pub up_appends : (who : Who) (p : Plain T (SoloWaker X)) → Appends (up wakes c who) p
    up_appends who p = by (find (lies who) p.lying) refl
      where
        lain : List (Lying (SoloWaker X))
        lain = without (lies who) p.lying

        one : Option (Lying (SoloWaker X)) → Plain T (SoloWaker X) → Plain T (SoloWaker X)
        one o p = on o (λ l p. on l.waker (let_go wakes (tell wakes c)) (record p { lying = without (lies who) p.lying })) p

        goes : (o : Option (SoloWaker X)) → Appends (λ p. on o (let_go wakes (tell wakes c)) (record p { lying = lain })) p
        goes None = set_appends lain (λ p. p) p (nothing (λ p. p) (record p { lying = lain }) (λ ds. refl))
        goes (Some w) =
            set_appends lain (let_go wakes (tell wakes c) w) p (let_go_appends (tell wakes c) tell_appends w (record p { lying = lain }))

        by : (o : Option (Lying (SoloWaker X))) → find (lies who) p.lying ≡ o → Appends (up wakes c who) p
        by None is =
            nothing (up wakes c who) p (λ ds. ap (λ o. one o (with_due ds p)) is ∙ sym (ap (λ o. with_due ds (one o p)) is))
        by (Some l) is =
            let it = goes l.waker in
            record {
              tail = it.tail;
              free = it.free;
              is = λ ds. ap (λ o. one o (with_due ds p)) is ∙ (it.is ds ∙ sym (ap (λ o. with_due (ds ++ it.tail) (one o p)) is));
            }

    -- who takes gets up, and one is told
    pub both_append : (who : Who) (p : Plain T (SoloWaker X)) → Appends (λ p. tell wakes c (up wakes c who p)) p
    both_append who p = and_so (up wakes c who) (tell wakes c) p (up_appends who p) (tell_appends (up wakes c who p))
