-- What waits for a run in an executor of one owner is what waits for that of the plain scheduler.
use Rattle.std.proofs.Common.{◌≡◌, ℕ, zero, suc, ◌<◌, ◌==◌, ◌&&◌, not, cond, Bool, true, false, List, [], ◌∷◌, ◌++◌, length, map, filter}
use Rattle.std.proofs.Common.{Option}
use Rattle.std.proofs.Common.{Some, None, is_some, slice_get, refl, sym, ap, ◌∙◌, arith}
use Rattle.executor_parts.specs.declared.mark.Mark.{Mark}
use Rattle.executor_parts.specs.declared.mark.Mark.TheVariants.{Plain as PlainMark}
use Rattle.executor_parts.specs.Marks.{same_mark}
use Rattle.solo.specs.declared.names.Task.{Task}
use Rattle.solo.specs.declared.names.SoloWaker.{SoloWaker}
use Rattle.solo.specs.declared.owed.Lent.{Lent}
use Rattle.solo.specs.declared.solo.Solo.{Solo}
use Rattle.solo.specs.Cells.{Kept, may_start}
use Rattle.solo.specs.OwnQueues.{first_in, first_of}
use Rattle.plain_scheduler.specs.State.{Due, Future, Plain}
use Rattle.plain_scheduler.specs.Lists.{any, or}
use Rattle.plain_scheduler.specs.Moves.{is_common, is_kept}
use Rattle.plain_laws.specs.Order.{is_kept_of, is_others, is_unkept, line, whole_line}
use Rattle.plain_laws.proofs.Words.{Each, is_itself, map_both}
use Rattle.plain_laws.proofs.Marked.{IsMarked, Marked}
use Rattle.plain_laws.proofs.Waits.{clash}
use Rattle.solo_laws.specs.Road.{TaskIs, due_task, stands}
use Rattle.solo_laws.specs.Tabled.{Stands, goes_on, named, own_of}
use Rattle.solo_laws.proofs.Following.Cells.{asks_found, found, of_found}
use Rattle.two_roads.specs.InOrder.{all_wait, mark_in, own_tasks, waits}
use Rattle.two_roads.proofs.Both.{map_twice}

abbrev future_of : Due → ℕ
future_of d = d.future

-- where no other run keeps one
none_of : (t : Due → Bool) (d : Due) (due : List Due) → filter t (d ∷ due) ≡ [] → (t d ≡ false) × (filter t due ≡ [])
none_of t d due is = by (t d) is
  where
    by : (b : Bool) → cond b (d ∷ filter t due) (filter t due) ≡ [] → (b ≡ false) × (filter t due ≡ [])
    by true is = absurd cc
    by false is = (refl, is)

pub others_none : (r : ℕ) (due : List Due) → ((k : ℕ) → (r == k) ≡ false → filter (is_kept k) due ≡ []) → any (is_others r) due ≡ false
others_none r [] none = refl
others_none r (d ∷ due) none =
    ap (λ b. cond b true (any (is_others r) due)) (head d.keeper refl)
    ∙ others_none r due (λ k away. (none_of (is_kept k) d due (none k away)).1)
  where
    head : (o : Option ℕ) → d.keeper ≡ o → or o (λ k. not (r == k)) false ≡ false
    head None is = refl
    head (Some k) is = apart (r == k) refl
      where
        apart : (b : Bool) → (r == k) ≡ b → not b ≡ false
        apart true so = refl
        apart false so =
            absurd (clash (k == k) (is_itself k)
            (sym (ap (λ o. or o (λ j. k == j) false) is) ∙ (none_of (is_kept k) d due (none k so)).0))

pub there_below : {X : Type 0} (xs : List X) (i : ℕ) → i < length xs → is_some (slice_get xs i) ≡ true
there_below [] i below = absurd (omega (arith, below))
there_below (x ∷ xs) zero below = refl
there_below (x ∷ xs) (suc i) below = there_below xs i (omega (arith, below))

module _ {F T X : Type 0} (its : ℕ → Lent) (s : Solo F T X) (p : Plain T (SoloWaker X)) (so : Stands its s p) where
  abbrev task_of : Due → Task
  task_of d = due_task (named its) d

  -- nothing in the own queue of a run, nothing that it keeps
  pub kept_none : (k : ℕ) → first_of k s.runs ≡ None → filter (is_kept k) p.due ≡ []
  kept_none k none = by (goes_on k p) refl
    where
      empty : (ds : List Due) → first_in (Some (map task_of ds)) ≡ None → ds ≡ []
      empty [] is = refl
      empty (d ∷ ds) is = absurd cc

      by : (b : Bool) → goes_on k p ≡ b → filter (is_kept k) p.due ≡ []
      by false is = so.1.kept k is
      by true is =
          empty (filter (is_kept k) p.due)
          (ap (λ b. first_in (own_of its b (filter (is_kept k) p.due))) (sym is) ∙ (ap first_in (sym (so.1.queues k)) ∙ none))

  own_so : (r : ℕ) → own_tasks r s ≡ map task_of (filter (is_kept r) p.due)
  own_so r = ap (λ o. or o (λ tasks. tasks) []) (so.1.queues r) ∙ by (goes_on r p) refl
    where
      by : (b : Bool) → goes_on r p ≡ b
          → or (own_of its b (filter (is_kept r) p.due)) (λ tasks. tasks) [] ≡ map task_of (filter (is_kept r) p.due)
      by true is = refl
      by false is = ap (map task_of) (sym (so.1.kept r is))

  -- the task of one that is due has its mark
  abbrev HasMark : Due → Type 0
  HasMark d = mark_in s (task_of d) ≡ d.mark

  mark_so : (d : Due) → stands d.future p.due ≡ true → IsMarked p d → HasMark d
  mark_so d due marked =
      let ready = so.0.ready d.future due in
      asks_found (λ v. v.metadata) PlainMark (task_of d) s.cells
      ∙ by (found (task_of d) s.cells) (sym (asks_found may_start false (task_of d) s.cells) ∙ ready.1)
      (so.0.tasks d.future ready.0)
    where
      the_same : (a b : Mark) → Some a ≡ Some b → a ≡ b
      the_same a b is = cc

      of_future : (v : Kept T X) (x : Option (Future T (SoloWaker X))) → TaskIs (Some v) x → or x (λ x. Some x.mark) None ≡ Some d.mark
          → v.metadata ≡ d.mark
      of_future v None is has = absurd is
      of_future v (Some x) is has = is.mark ∙ the_same x.mark d.mark has

      by : (o : Option (Kept T X)) → of_found may_start false o ≡ true → TaskIs o (slice_get p.futures d.future)
          → of_found (λ (v : Kept T X). v.metadata) PlainMark o ≡ d.mark
      by None start is = absurd cc
      by (Some v) start is = of_future v (slice_get p.futures d.future) is marked

  marks_so : (ds : List Due) → ((f : ℕ) → stands f ds ≡ true → stands f p.due ≡ true) → Each (IsMarked p) ds → Each HasMark ds
  marks_so [] within all = tt
  marks_so (d ∷ ds) within all = (
    mark_so d (within d.future (ap (λ b. cond b true (stands d.future ds)) (is_itself d.future))) all.0,
    marks_so ds (λ f is. within f (later f (f == d.future) is)) all.1,
  )
    where
      later : (f : ℕ) (b : Bool) → stands f ds ≡ true → cond b true (stands f ds) ≡ true
      later f true is = refl
      later f false is = is

  of_mark_so : (m : Mark) (r : ℕ) (ds : List Due) → Each HasMark ds
      → filter (λ t. same_mark m (mark_in s t)) (map task_of (filter (is_kept r) ds)) ≡ map task_of (filter (is_kept_of m r) ds)
  of_mark_so m r [] all = refl
  of_mark_so m r (d ∷ ds) all = by (is_kept r d) (of_mark_so m r ds all.1)
    where
      is_its : Task → Bool
      is_its t = same_mark m (mark_in s t)

      mine : (b : Bool) → filter is_its (map task_of (filter (is_kept r) ds)) ≡ map task_of (filter (is_kept_of m r) ds)
          → cond b (task_of d ∷ filter is_its (map task_of (filter (is_kept r) ds))) (filter is_its (map task_of (filter (is_kept r) ds)))
          ≡ map task_of (cond b (d ∷ filter (is_kept_of m r) ds) (filter (is_kept_of m r) ds))
      mine true rest = ap (λ l. task_of d ∷ l) rest
      mine false rest = rest

      by : (b : Bool) → filter is_its (map task_of (filter (is_kept r) ds)) ≡ map task_of (filter (is_kept_of m r) ds)
          → filter is_its (map task_of (cond b (d ∷ filter (is_kept r) ds) (filter (is_kept r) ds)))
          ≡ map task_of (cond (b && same_mark m d.mark) (d ∷ filter (is_kept_of m r) ds) (filter (is_kept_of m r) ds))
      by true rest =
          ap (λ k. cond (same_mark m k) (task_of d ∷ filter is_its (map task_of (filter (is_kept r) ds)))
          (filter is_its (map task_of (filter (is_kept r) ds)))) all.0
          ∙ mine (same_mark m d.mark) rest
      by false rest = rest

  -- so the two lists are the same
  pub line_so : Marked p → (m : Mark) (r : ℕ) → map (named its) (line m r p.due) ≡ waits m r s
  line_so marked m r =
      map_twice future_of (named its) (filter (is_kept_of m r) p.due ++ filter (is_common m) p.due)
      ∙ (map_both task_of (filter (is_kept_of m r) p.due) (filter (is_common m) p.due)
      ∙ (ap (λ l. l ++ map task_of (filter (is_common m) p.due))
      (sym (ap (filter (λ t. same_mark m (mark_in s t))) (own_so r)
      ∙ of_mark_so m r p.due (marks_so p.due (λ f is. is) marked.due)))
      ∙ ap (λ l. filter (λ t. same_mark m (mark_in s t)) (own_tasks r s) ++ l) (sym (so.0.queued.lines m))))

  -- and those of all, where none is urgent
  pub whole_line_so : filter is_unkept p.due ≡ filter (is_common PlainMark) p.due → (r : ℕ)
      → map (named its) (whole_line r p.due) ≡ all_wait r s
  whole_line_so plain r =
      map_twice future_of (named its) (filter (is_kept r) p.due ++ filter is_unkept p.due)
      ∙ (map_both task_of (filter (is_kept r) p.due) (filter is_unkept p.due)
      ∙ (ap (λ l. l ++ map task_of (filter is_unkept p.due)) (sym (own_so r))
      ∙ ap (λ l. own_tasks r s ++ l) (ap (map task_of) plain ∙ sym (so.0.queued.lines PlainMark))))
