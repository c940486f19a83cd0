-- The executor goes on standing where the plain scheduler does, as a task is changed and as one is queued.
use Rattle.std.proofs.Common.{◌≡◌, ℕ, ◌<◌, ◌≤◌, ◌==◌, Bool, true, false, List, [], ◌∷◌, ◌++◌, length, Option, Some, None, slice_get}
use Rattle.std.proofs.Common.{slice_set, refl, sym, ap, subst, ◌∙◌}
use Rattle.executor_parts.specs.declared.mark.Mark.TheVariants.{Plain as PlainMark}
use Rattle.task_moves.specs.AbstractTask.{AbstractTask}
use Rattle.task_moves.specs.LocalTask.{told}
use Rattle.solo.specs.declared.names.Task.{Task}
use Rattle.solo.specs.declared.names.SoloWaker.{SoloWaker}
use Rattle.solo.specs.declared.names.SoloWaker.TheVariants.{Task as OfTask}
use Rattle.solo.specs.declared.solo.Solo.{Solo}
use Rattle.solo.specs.Cells.{Kept, asked}
use Rattle.solo.specs.Cells as cells
use Rattle.solo.specs.Turns as turns
use Rattle.plain_scheduler.specs.State.{Due, Future, Plain}
use Rattle.plain_scheduler.specs.Lists.{on, or}
use Rattle.plain_scheduler.specs.Moves.{put, task, mark, appended, no_task}
use Rattle.solo_laws.specs.Road.{IsTaskOf, TaskIs, IsOver, IsAsleep, IsNamed, FollowsBut, beside, stands, once, is_in, lents, drops}
use Rattle.solo_laws.proofs.Following.Due.{living_set, once_last, stands_last, beside_last}
use Rattle.solo_laws.proofs.Following.Lists.{set_same, set_other, get_below, length_set}
use Rattle.solo_laws.proofs.Following.Cells.{found, of_found, asks_found, there, changed_found, found_here, found_there, same_number}
use Rattle.solo_laws.proofs.Following.Lines as lines

module _ {T A : Type 0} where
  -- the task of a future that is there
  pub task_is : (f : ℕ) (p : Plain T A) (x : Future T A) → slice_get p.futures f ≡ Some x → task f p ≡ x.task
  task_is f p x is = ap (λ (o : Option (Future T A)). or o (λ future. future.task) no_task) is

  pub mark_is : (f : ℕ) (p : Plain T A) (x : Future T A) → slice_get p.futures f ≡ Some x → mark f p ≡ x.mark
  mark_is f p x is = ap (λ (o : Option (Future T A)). or o (λ future. future.mark) PlainMark) is

  pub put_is : (f : ℕ) (new : AbstractTask T A) (p : Plain T A) (x : Future T A) → slice_get p.futures f ≡ Some x
      → put f new p ≡ record p { futures = slice_set p.futures f (record x { task = told new }) }
  put_is f new p x is =
      ap
      (λ (o : Option (Future T A)). on o (λ x p. record p { futures = slice_set p.futures f (record x { task = told new }) }) p)
      is

module _ {T X : Type 0} (g : Kept T X → Kept T X) (h : AbstractTask T (SoloWaker X) → AbstractTask T (SoloWaker X)) where
  here_is : (o : Option (Kept T X)) (x : Future T (SoloWaker X)) (t : AbstractTask T (SoloWaker X))
      → (o ≡ None → IsOver t → IsOver (told (h t)))
      → ((v : Kept T X) → o ≡ Some v → IsTaskOf v x → IsTaskOf (g v) (record x { task = told (h x.task) }))
      → t ≡ x.task → TaskIs o (Some x)
      → TaskIs (changed_found g o) (Some (record x { task = told (h t) }))
  here_is None x t over goes same is = over refl (subst IsOver (sym same) is)
  here_is (Some v) x t over goes same is =
      subst (λ t. IsTaskOf (g v) (record x { task = told (h t) })) (sym same) (goes v refl is)

-- a task's waker that awaits the task after a change is one of theirs
abbrev pub Awaits : {T X : Type 0} → (ℕ → Task) → (AbstractTask T (SoloWaker X) → AbstractTask T (SoloWaker X)) → ℕ
    → Plain T (SoloWaker X) → Type 0
Awaits name h f p = (t : Task) → (h (task f p)).awaiter ≡ Some (OfTask t) → IsNamed name (length p.futures) t

back : (f j : ℕ) (test : ℕ → Bool) → (f == j) ≡ true → test j ≡ true → test f ≡ true
back f j test same is = subst (λ n. test n ≡ true) (sym (same_number f j same)) is

module _ {T X : Type 0} (aside : Option Due) (g : Kept T X → Kept T X)
    (h : AbstractTask T (SoloWaker X) → AbstractTask T (SoloWaker X)) where
  -- the change is one of the task's state; and where the future is due, it stays ready, and where it is in hand, it stays out
  pub record IsGoing (f : ℕ) (p : Plain T (SoloWaker X)) (v : Kept T X) (x : Future T (SoloWaker X)) : Type 0 where
    pub is : IsTaskOf (g v) (record x { task = told (h x.task) })
    pub ready : stands f (beside aside p.due) ≡ true → cells.may_start v ≡ true → cells.may_start (g v) ≡ true
    pub lent : is_in f (lents p.inside) ≡ true → cells.is_lent v ≡ true → cells.is_lent (g v) ≡ true
    pub dropping : is_in f (drops p.inside) ≡ true → cells.is_dropping v ≡ true → cells.is_dropping (g v) ≡ true

module _ {F T X : Type 0} (aside : Option Due) (name : ℕ → Task) where
  -- the task of a future that is there, where something is so of the one that is kept
  pub kept : (q : Kept T X → Bool) (f : ℕ) (s : Solo F T X) (p : Plain T (SoloWaker X)) → FollowsBut aside name s p
      → f < length p.futures
      → asked q false (name f) s.cells ≡ true
      → (v : Kept T X) × (x : Future T (SoloWaker X)) × (found (name f) s.cells ≡ Some v) × (slice_get p.futures f ≡ Some x)
      × (q v ≡ true) × IsTaskOf v x
  kept q f s p r at is =
      let v = there q (found (name f) s.cells) (sym (asks_found q false (name f) s.cells) ∙ is) in
      let x = get_below p.futures f at in
      (v.0, x.0, v.1, x.1, v.2, subst (λ o. TaskIs o (Some x.0)) v.1 (subst (TaskIs (found (name f) s.cells)) x.1 (r.tasks f at)))

  module _ (g : Kept T X → Kept T X) (h : AbstractTask T (SoloWaker X) → AbstractTask T (SoloWaker X)) where
    -- a task that is gone stays over
    abbrev pub StaysOver : ℕ → Solo F T X → Plain T (SoloWaker X) → Type 0
    StaysOver f s p = found (name f) s.cells ≡ None → IsOver (task f p) → IsOver (told (h (task f p)))

    abbrev pub Goes : ℕ → Solo F T X → Plain T (SoloWaker X) → Type 0
    Goes f s p =
        (v : Kept T X) (x : Future T (SoloWaker X)) → found (name f) s.cells ≡ Some v → slice_get p.futures f ≡ Some x
        → IsTaskOf v x → IsGoing aside g h f p v x

    tasks_by : (s : Solo F T X) (p : Plain T (SoloWaker X)) → FollowsBut aside name s p → (f : ℕ) → StaysOver f s p → Goes f s p
        → (x : Future T (SoloWaker X)) (b : Bool) (j : ℕ)
        → f < length p.futures → j < length p.futures → slice_get p.futures f ≡ Some x → (f == j) ≡ b
        → TaskIs (found (name j) (cells.changed g (name f) s.cells))
        (slice_get (slice_set p.futures f (record x { task = told (h (task f p)) })) j)
    tasks_by s p r f over goes x true j at below is same =
        let one : f ≡ j = same_number f j same in
        subst
        (λ j. TaskIs (found (name j) (cells.changed g (name f) s.cells))
        (slice_get (slice_set p.futures f (record x { task = told (h (task f p)) })) j))
        one
        (subst (λ o. TaskIs (found (name f) (cells.changed g (name f) s.cells)) o)
        (sym (set_same p.futures f (record x { task = told (h (task f p)) }) x is))
        (subst (λ o. TaskIs o (Some (record x { task = told (h (task f p)) })))
        (sym (found_here g (name f) s.cells))
        (here_is g h (found (name f) s.cells) x (task f p) over (λ v here fits. (goes v x here is fits).is) (task_is f p x is)
        (subst (λ o. TaskIs (found (name f) s.cells) o) is (r.tasks f at)))))
    tasks_by s p r f over goes x false j at below is same =
        let apart : ((name f).number == (name j).number) ≡ false =
        ap (λ n. n == (name j).number) (r.numbered f at) ∙ (ap (λ n. f == n) (r.numbered j below) ∙ same) in
        subst (λ o. TaskIs (found (name j) (cells.changed g (name f) s.cells)) o)
        (sym (set_other p.futures f j (record x { task = told (h (task f p)) }) same))
        (subst (λ o. TaskIs o (slice_get p.futures j))
        (sym (found_there g (name f) (name j) apart s.cells))
        (r.tasks j below))

    awaiters_by : (s : Solo F T X) (p : Plain T (SoloWaker X)) → FollowsBut aside name s p → (f : ℕ) → Awaits name h f p
        → (x : Future T (SoloWaker X)) (b : Bool) (j : ℕ) → f < length p.futures → slice_get p.futures f ≡ Some x → (f == j) ≡ b
        → (t : Task)
        → (task j (record p { futures = slice_set p.futures f (record x { task = told (h (task f p)) }) })).awaiter ≡ Some (OfTask t)
        → IsNamed name (length p.futures) t
    awaiters_by s p r f awaits x true j at is same t has =
        let new : Future T (SoloWaker X) = record x { task = told (h (task f p)) } in
        let here : slice_get (slice_set p.futures f new) j ≡ Some new =
        ap (slice_get (slice_set p.futures f new)) (sym (same_number f j same)) ∙ set_same p.futures f new x is in
        awaits t (sym (ap (λ t. t.awaiter) (task_is j (record p { futures = slice_set p.futures f new }) new here)) ∙ has)
    awaiters_by s p r f awaits x false j at is same t has =
        let new : Future T (SoloWaker X) = record x { task = told (h (task f p)) } in
        r.awaiters j t (sym (ap (λ (o : Option (Future T (SoloWaker X))). (or o (λ future. future.task) no_task).awaiter)
        (set_other p.futures f j new same)) ∙ has)

    -- what is so of a task stays so
    still_by : (s : Solo F T X) (p : Plain T (SoloWaker X)) → FollowsBut aside name s p
        → (f : ℕ) (q : Kept T X → Bool) (b : Bool) (j : ℕ)
        → f < length p.futures → j < length p.futures → (f == j) ≡ b
        → (b ≡ true → (v : Kept T X) (x : Future T (SoloWaker X)) → found (name f) s.cells ≡ Some v → slice_get p.futures f
        ≡ Some x
        → IsTaskOf v x → q v ≡ true → q (g v) ≡ true)
        → asked q false (name j) s.cells ≡ true → asked q false (name j) (cells.changed g (name f) s.cells) ≡ true
    still_by s p r f q true j at below same keeps is =
        let one : f ≡ j = same_number f j same in
        let k = kept q f s p r at (subst (λ n. asked q false (name n) s.cells ≡ true) (sym one) is) in
        subst (λ j. asked q false (name j) (cells.changed g (name f) s.cells) ≡ true) one
        (asks_found q false (name f) (cells.changed g (name f) s.cells)
        ∙ (ap (of_found q false) (found_here g (name f) s.cells ∙ ap (changed_found g) k.2) ∙ keeps refl k.0 k.1 k.2 k.3 k.5 k.4))
    still_by s p r f q false j at below same keeps is =
        let apart : ((name f).number == (name j).number) ≡ false =
        ap (λ n. n == (name j).number) (r.numbered f at) ∙ (ap (λ n. f == n) (r.numbered j below) ∙ same) in
        asks_found q false (name j) (cells.changed g (name f) s.cells)
        ∙ (ap (of_found q false) (found_there g (name f) (name j) apart s.cells)
        ∙ (sym (asks_found q false (name j) s.cells) ∙ is))

    -- the task of a future is changed in both
    pub turned : (f : ℕ) (s : Solo F T X) (p : Plain T (SoloWaker X)) → f < length p.futures → StaysOver f s p → Goes f s p
        → Awaits name h f p → FollowsBut aside name s p
        → FollowsBut aside name (turns.turned g (name f) s) (put f (h (task f p)) p)
    turned f s p at over goes awaits r =
        let x = get_below p.futures f at in
        let new : Future T (SoloWaker X) = record x.0 { task = told (h (task f p)) } in
        let now : List (Future T (SoloWaker X)) = slice_set p.futures f new in
        let long : length now ≡ length p.futures = length_set p.futures f new in
        subst (FollowsBut aside name (turns.turned g (name f) s)) (sym (put_is f (h (task f p)) p x.0 x.1))
        (record {
          numbered = λ j below. r.numbered j (subst (λ n. j < n) long below);
          tasks = λ j below. tasks_by s p r f over goes x.0 (f == j) j at (subst (λ n. j < n) long below) x.1 refl;
          within = subst (λ ns. length ns ≤ p.limit) (sym (living_set p.futures 0 f x.0 new x.1 refl)) r.within;
          queued = r.queued;
          once = r.once;
          ready = λ j due.
              let can = r.ready j due in (
                subst (λ n. j < n) (sym long) can.0,
                still_by s p r f cells.may_start (f == j) j at can.0 refl
                    (λ same v x here is of. (goes v x here is of).ready
                    (back f j (λ n. stands n (beside aside p.due)) same due)) can.1,
              );
          asleep = subst (λ n. IsAsleep name n s.sleepers s.notified p.lying) (sym long) r.asleep;
          awaiters = λ j t is. subst (λ n. IsNamed name n t) (sym long) (awaiters_by s p r f awaits x.0 (f == j) j at x.1 refl t is);
          inside = record {
            lent = λ j has.
                let can = r.inside.lent j has in (
                  subst (λ n. j < n) (sym long) can.0,
                  still_by s p r f cells.is_lent (f == j) j at can.0 refl
                      (λ same v x here is of. (goes v x here is of).lent
                      (back f j (λ n. is_in n (lents p.inside)) same has)) can.1,
                );
            dropping = λ j has.
                let can = r.inside.dropping j has in (
                  subst (λ n. j < n) (sym long) can.0,
                  still_by s p r f cells.is_dropping (f == j) j at can.0 refl
                      (λ same v x here is of. (goes v x here is of).dropping
                      (back f j (λ n. is_in n (drops p.inside)) same has)) can.1,
                );
            lent_once = r.inside.lent_once;
            dropping_once = r.inside.dropping_once;
            callers = λ i t is. subst (λ n. IsNamed name n t) (sym long) (r.inside.callers i t is);
          };
        })

  -- a task comes last in its queue, as its future does in the list
  pub lined : (f : ℕ) (s : Solo F T X) (p : Plain T (SoloWaker X)) → turns.takes (name f) s ≡ true
      → turns.mark_of (name f) s ≡ mark f p → f < length p.futures → stands f (beside aside p.due) ≡ false
      → asked cells.may_start false (name f) s.cells ≡ true → FollowsBut aside name s p
      → FollowsBut aside name (turns.lined (name f) s) (appended f p)
  lined f s p place same at none ready r =
      subst
      (λ m. FollowsBut aside name (turns.lined (name f) s)
      (record p { due = p.due ++ record { future = f; mark = m; keeper = None } ∷ [] }))
      same
      (record {
        numbered = r.numbered;
        tasks = r.tasks;
        within = r.within;
        queued = record {
          lines = lines.lined name p.due f (turns.mark_of (name f) s) s.lines place r.queued.lines;
          unclosed = lines.unclosed (name f) (turns.mark_of (name f) s) s.lines place r.queued.unclosed;
          limit = lines.as_long (name f) (turns.mark_of (name f) s) s.lines place p.limit r.queued.limit;
        };
        once =
            ap once (beside_last aside p.due (lines.last name p.due f (turns.mark_of (name f) s)))
            ∙ once_last (beside aside p.due) (lines.last name p.due f (turns.mark_of (name f) s)) r.once none;
        ready = λ j due.
            by (j == f) j
            (sym (ap (stands j) (beside_last aside p.due (lines.last name p.due f (turns.mark_of (name f) s)))) ∙ due) refl;
        asleep = r.asleep;
        awaiters = r.awaiters;
        inside = r.inside;
      })
    where
      by : (b : Bool) (j : ℕ) → stands j (beside aside p.due ++ lines.last name p.due f (turns.mark_of (name f) s) ∷ [])
          ≡ true → (j == f) ≡ b
          → (j < length p.futures) × (asked cells.may_start false (name j) s.cells ≡ true)
      by true j due same =
          let one : j ≡ f = same_number j f same in (
            subst (λ n. n < length p.futures) (sym one) at,
            subst (λ n. asked cells.may_start false (name n) s.cells ≡ true)
                (sym one) ready,
          )
      by false j due same = r.ready j (stands_last j (beside aside p.due)
          (lines.last name p.due f (turns.mark_of (name f) s)) due same)
