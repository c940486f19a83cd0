-- A search of the executor's queues finds what the plain scheduler takes: the first without a keeper of the mark that is looked
-- at
-- first, or else of the other.
use Rattle.std.proofs.Common.{◌≡◌, ℕ, cond, ◌&&◌, not, Bool, true, false, List, [], ◌∷◌, map, filter, find, drop, Option, Some, None}
use Rattle.std.proofs.Common.{slice_get, is_some, refl, sym, ap, subst, ◌∙◌}
use Rattle.executor_parts.specs.declared.mark.Mark.{Mark}
use Rattle.executor_parts.specs.declared.mark.Mark.TheVariants.{Plain, Urgent}
use Rattle.executor_parts.specs.Marks.{same_mark, other}
use Rattle.solo.specs.declared.names.Task.{Task}
use Rattle.solo.specs.Lines.{LinesValue, line_of, first_of, popped_from, taken_from, found_from, taken_by, found_by, turned, mark_of_turn}
use Rattle.plain_scheduler.specs.State.{Due}
use Rattle.plain_scheduler.specs.Lists.{any, without}
use Rattle.plain_scheduler.specs.Moves.{is_common, chosen}
use Rattle.solo_laws.specs.Road.{due_task, due_task_if as task_if, Lined as LinedBy, tests, SearchesAlike}
use Rattle.solo_laws.proofs.Following.Lines.{find_first, without_first, without_other}

module _ {A : Type 0} (test : A → Bool) where
  pub found_any : (xs : List A) → any test xs ≡ is_some (find test xs)
  found_any [] = refl
  found_any (x ∷ xs) = by (test x) (found_any xs)
    where
      by : (b : Bool) → any test xs ≡ is_some (find test xs) → cond b true (any test xs)
          ≡ is_some (cond b (Some x) (find test xs))
      by true is = refl
      by false is = is

  pub without_none : (xs : List A) → any test xs ≡ false → without test xs ≡ xs
  without_none [] is = refl
  without_none (x ∷ xs) is = by (test x) is (without_none xs)
    where
      by : (b : Bool) → cond b true (any test xs) ≡ false → (any test xs ≡ false → without test xs ≡ xs)
          → cond b xs (x ∷ without test xs) ≡ x ∷ xs
      by true is rest = absurd cc
      by false is rest = ap (λ ys. x ∷ ys) (rest is)

other_mark : (m n : Mark) → same_mark m n ≡ true → same_mark (other m) n ≡ false
other_mark Plain Plain is = refl
other_mark Plain Urgent is = absurd cc
other_mark Urgent Plain is = absurd cc
other_mark Urgent Urgent is = refl

both : (a b : Bool) → (a && b) ≡ true → b ≡ true
both true b is = is
both false b is = absurd cc

only : (a b : Bool) → b ≡ false → (a && b) ≡ false
only true b is = is
only false b is = refl

-- one of this mark is none of the other
pub apart : (m : Mark) (d : Due) → is_common m d ≡ true → is_common (other m) d ≡ false
apart m d is = only (not (is_some d.keeper)) (same_mark (other m) d.mark)
    (other_mark m d.mark (both (not (is_some d.keeper)) (same_mark m d.mark) is))

module _ (name : ℕ → Task) where
  abbrev name_of : Option Due → Option Task
  name_of o = task_if name o

  abbrev Lined : LinesValue → List Due → Type 0
  Lined l due = LinedBy name l due

  pub head_named : (ds : List Due) → slice_get (map (due_task name) ds) 0 ≡ name_of (slice_get ds 0)
  head_named [] = refl
  head_named (d ∷ ds) = refl

  pub rest_named : (ds : List Due) → drop 1 (map (due_task name) ds) ≡ map (due_task name) (drop 1 ds)
  rest_named [] = refl
  rest_named (d ∷ ds) = refl

  first_is : (m : Mark) (l : LinesValue) (due : List Due) → Lined l due → first_of m l ≡ name_of (find (is_common m) due)
  first_is m l due lines =
      ap (λ (items : List Task). slice_get items 0) (lines m)
      ∙ (head_named (filter (is_common m) due) ∙ ap name_of (sym (find_first (is_common m) due)))

  same_line : (m : Mark) (l : LinesValue) (due : List Due) → Lined l due
      → drop 1 (line_of m l).items ≡ map (due_task name) (filter (is_common m) (without (is_common m) due))
  same_line m l due lines =
      ap (drop 1) (lines m)
      ∙ (rest_named (filter (is_common m) due) ∙ ap (map (due_task name)) (sym (without_first (is_common m) due)))

  -- without the first of one mark
  pub popped : (m : Mark) (l : LinesValue) (due : List Due) → Lined l due → Lined (popped_from m l) (without (is_common m) due)
  popped Plain l due lines Plain = same_line Plain l due lines
  popped Urgent l due lines Urgent = same_line Urgent l due lines
  popped Plain l due lines Urgent =
      lines Urgent ∙ ap (map (due_task name)) (sym (without_other (is_common Plain) (is_common Urgent) (apart Plain) due))
  popped Urgent l due lines Plain =
      lines Plain ∙ ap (map (due_task name)) (sym (without_other (is_common Urgent) (is_common Plain) (apart Urgent) due))

  -- what is found is what is taken, and the queues stay what is due
  pub taken : (m : Mark) (l : LinesValue) (due : List Due) → Lined l due
      → ((found_from m l).task ≡ name_of (find (chosen (tests m) due) due)) × Lined (taken_from m l)
      (without (chosen (tests m) due) due)
  taken m l due lines = by (find (is_common m) due) refl
    where
      -- with the first test, or past it
      here : any (is_common m) due ≡ true → (B : (Due → Bool) → Type 0) → B (is_common m) → B (chosen (tests m) due)
      here is B b =
          subst (λ b. B (λ d. cond b (is_common m d) (chosen (is_common (other m) ∷ []) due d))) (sym is) b

      past : any (is_common m) due ≡ false → (B : (Due → Bool) → Type 0) → B (chosen (is_common (other m) ∷ []) due)
          → B (chosen (tests m) due)
      past is B b =
          subst (λ b. B (λ d. cond b (is_common m d) (chosen (is_common (other m) ∷ []) due d))) (sym is) b

      Same : (Due → Bool) → Type 0
      Same test = ((found_from m l).task ≡ name_of (find test due)) × Lined (taken_from m l) (without test due)

      first : (d : Due) → find (is_common m) due ≡ Some d → Same (is_common m)
      first d is =
          let it : first_of m l ≡ Some (name d.future) = first_is m l due lines ∙ ap name_of is in (
            ap (λ o. (found_by o m (popped_from m l)).task) it ∙ sym (ap name_of is),
            subst (λ o. Lined (taken_by o m (popped_from m l)) (without (is_common m) due)) (sym it) (popped m l due lines),
          )

      second : find (is_common m) due ≡ None → Same (is_common (other m))
      second is =
          let none : any (is_common m) due ≡ false = found_any (is_common m) due ∙ ap is_some is in
          let it : first_of m l ≡ None = first_is m l due lines ∙ ap name_of is in
          let left : Lined (popped_from m l) due =
          subst (Lined (popped_from m l)) (without_none (is_common m) due none) (popped m l due lines) in (
            ap (λ o. (found_by o m (popped_from m l)).task) it ∙ first_is (other m) (popped_from m l) due left,
            subst (λ o. Lined (taken_by o m (popped_from m l)) (without (is_common (other m)) due)) (sym it)
                (popped (other m) (popped_from m l) due left),
          )

      last_by : (b : Bool) → any (is_common (other m)) due ≡ b → Same (is_common (other m))
          → Same (chosen (is_common (other m) ∷ []) due)
      last_by true is same = subst (λ b. Same (λ d. cond b (is_common (other m) d) false)) (sym is) same
      last_by false is same =
          subst (λ b. Same (λ d. cond b (is_common (other m) d) false)) (sym is) (
            same.0 ∙ ap name_of (none_found (is_common (other m)) due is ∙ sym (nobody due)),
            subst (Lined (taken_from m l)) (without_none (is_common (other m)) due is ∙ sym (no_one due)) same.1,
          )
        where
          nobody : (ds : List Due) → find (λ d. false) ds ≡ None
          nobody [] = refl
          nobody (d ∷ ds) = nobody ds

          no_one : (ds : List Due) → without (λ d. false) ds ≡ ds
          no_one [] = refl
          no_one (d ∷ ds) = ap (λ ds. d ∷ ds) (no_one ds)

          is_none : (o : Option Due) → is_some o ≡ false → o ≡ None
          is_none None is = refl
          is_none (Some d) is = absurd cc

          none_found : (test : Due → Bool) (ds : List Due) → any test ds ≡ false → find test ds ≡ None
          none_found test ds is = is_none (find test ds) (sym (found_any test ds) ∙ is)

      by : (o : Option Due) → find (is_common m) due ≡ o → Same (chosen (tests m) due)
      by (Some d) is = here (found_any (is_common m) due ∙ ap is_some is) Same (first d is)
      by None is =
          past (found_any (is_common m) due ∙ ap is_some is) Same (last_by (any (is_common (other m)) due) refl (second is))

  -- a search, by its turn
  pub searched_alike : (l : LinesValue) (due : List Due) → Lined l due → SearchesAlike name l due
  searched_alike l due lines = taken (mark_of_turn l.turn) (turned l) due (turned_lines lines)
    where
      turned_lines : Lined l due → Lined (turned l) due
      turned_lines lines Plain = lines Plain
      turned_lines lines Urgent = lines Urgent
