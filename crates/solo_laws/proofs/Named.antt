-- The task of a name, as tasks are changed and go: whether it stands ready to be run, and fits.
use Rattle.std.proofs.Common.{◌≡◌, ◌≢◌, ℕ, ◌+◌, ◌≤◌, ◌==◌, ◌&&◌, not, Bool, true, false}
use Rattle.std.proofs.Common.{Option, Some, None, slice_set, refl, sym, ap, subst, ◌∙◌, arith}
use Rattle.std.proofs.lemmas.Bool.Decides.{nat_tests}
use Rattle.slab.specs.Slab.{Slab, get, with_value, Updates}
use Rattle.executor_parts.specs.declared.places.EntryPlace.{EntryPlace}
use Rattle.task_moves.specs.AbstractTask.{is_idle}
use Rattle.task_moves.specs.LocalTask as local
use Rattle.task_moves.specs.LocalTask.{is_queued, is_home}
use Rattle.task_moves.specs.declared.local_task.answers.FuturePlace.{FuturePlace}
use Rattle.task_moves.specs.declared.local_task.answers.FuturePlace.TheVariants.{Home, Lent, Dropping, Gone}
use Rattle.solo.specs.declared.names.Task.{Task}
use Rattle.solo.specs.declared.cells.Cell.{Cell}
use Rattle.solo.specs.declared.cells.Cells.{Cells}
use Rattle.solo.specs.Cells.{Kept, choose, changed_by, changed, asked_by, asked, tidied}
use Rattle.solo.specs.Cells as cells
use Rattle.solo_laws.specs.Queueing.{one_if, is_task}
use Rattle.solo_laws.proofs.Loosening.{with_cell, without_cell}

same_number : (a b : ℕ) → (a == b) ≡ true → a ≡ b
same_number a b is = grind (arith, nat_tests)

spent_place : (p : FuturePlace EntryPlace) (rest b : Bool) → (local.is_gone p && rest) ≡ true → (is_home p && b) ≡ false
spent_place (Home place) rest b is = absurd cc
spent_place Lent rest b is = refl
spent_place Dropping rest b is = refl
spent_place Gone rest b is = refl

both_true : (a b : Bool) → (a && b) ≡ true → (a ≡ true) × (b ≡ true)
both_true true true is = (refl, refl)
both_true true false is = absurd cc
both_true false b is = absurd cc

module _ {T X : Type 0} where
  module _ {B : Type 0} (h : Kept T X → B) (b : B) (f : Kept T X → Kept T X) where
    cell_asked : (mine his same : Bool) (v : Kept T X) → (mine ≡ true → his ≡ same)
        → choose mine (h (choose his (f v) v)) b ≡ choose same (choose mine (h (f v)) b) (choose mine (h v) b)
    cell_asked true true true v is = refl
    cell_asked true false false v is = refl
    cell_asked true true false v is = let no : true ≡ false = is refl in absurd cc
    cell_asked true false true v is = let no : false ≡ true = is refl in absurd cc
    cell_asked false his true v is = refl
    cell_asked false his false v is = refl

    same_none : (same : Bool) (found : Option (Cell T X)) (t : Task) → found ≡ None
        → asked_by h b t found ≡ choose same (asked_by (λ v. h (f v)) b t found) (asked_by h b t found)
    same_none true None t is = refl
    same_none false None t is = refl
    same_none same (Some c) t is = absurd cc

    asked_at : (t u : Task) (found : Option (Cell T X)) (s : Slab (Cell T X)) (key : Bool) → get s u.key ≡ found → (u.key == t.key) ≡ key
        → asked_by h b t (get (changed_by f u found s) t.key)
        ≡ choose (key && (u.number == t.number)) (asked_by (λ v. h (f v)) b t (get s t.key)) (asked_by h b t (get s t.key))
    asked_at t u None s true is key =
        let one : u.key ≡ t.key = grind (arith, nat_tests) in
        same_none (u.number == t.number) (get s t.key) t (sym (ap (get s) one) ∙ is)
    asked_at t u None s false is key = refl
    asked_at t u (Some c) s true is key =
        let one : u.key ≡ t.key = grind (arith, nat_tests) in
        let d : Cell T X = record c { task = choose (c.number == u.number) (f c.task) c.task } in
        let now : get (with_value s u.key d) t.key ≡ Some d =
        sym (ap (get (with_value s u.key d)) one) ∙ (with_cell s u.key c d is).changed in
        let was : get s t.key ≡ Some c = sym (ap (get s) one) ∙ is in
        let by : (found : Option (Cell T X)) → found ≡ Some c
        → choose (c.number == t.number) (h (choose (c.number == u.number) (f c.task) c.task)) b
        ≡ choose (u.number == t.number) (asked_by (λ v. h (f v)) b t found) (asked_by h b t found) =
        λ found is. subst
        (λ o. choose (c.number == t.number) (h (choose (c.number == u.number) (f c.task) c.task)) b
        ≡ choose (u.number == t.number) (asked_by (λ v. h (f v)) b t o) (asked_by h b t o))
        (sym is) (cell_asked (c.number == t.number) (c.number == u.number) (u.number == t.number) c.task
        (λ mine. numbers c.number t.number u.number mine)) in
        ap (asked_by h b t) now ∙ by (get s t.key) was
      where
        numbers : (c t u : ℕ) → (c == t) ≡ true → (c == u) ≡ (u == t)
        numbers c t u mine = let same : c ≡ t = grind (arith, nat_tests) in grind (arith, nat_tests)
    asked_at t u (Some c) s false is key =
        let two : t.key ≢ u.key = λ one. absurd (grind (arith, nat_tests)) in
        let d : Cell T X = record c { task = choose (c.number == u.number) (f c.task) c.task } in
        ap (asked_by h b t) ((with_cell s u.key c d is).others t.key two)

    -- what the task of a name answers once that of another, or of the same, was changed
    pub asked_changed : (t u : Task) (s : Cells T X)
        → asked h b t (changed f u s) ≡ choose (is_task t u) (asked (λ v. h (f v)) b t s) (asked h b t s)
    asked_changed t u s = asked_at t u (get s.slab u.key) s.slab (u.key == t.key) refl refl

  -- it waits for a wake while its future isn't in its place: no task does
  abbrev pub unfit : Kept T X → Bool
  unfit v = is_idle v.task.phase && not (is_home v.future)

  -- the task of this name fits, if it is there
  abbrev pub Fits : Task → Cells T X → Type 0
  Fits t s = asked unfit false t s ≡ false

  -- one where it stands ready to be run
  abbrev pub ready : Task → Cells T X → ℕ
  ready t s = one_if (asked cells.may_start false t s)

  -- a change that makes a task ready where it asks for its queueing, and leaves it so
  abbrev pub Asking : (Kept T X → Kept T X) → (Kept T X → Bool) → Type 0
  Asking f g =
      (v : Kept T X) → unfit v ≡ false
      → (unfit (f v) ≡ false) × (one_if (cells.may_start v) + one_if (g v) ≤ one_if (cells.may_start (f v)))

  -- any other
  abbrev pub Fitting : (Kept T X → Kept T X) → Type 0
  Fitting f = (v : Kept T X) → unfit v ≡ false → unfit (f v) ≡ false

  module _ (f : Kept T X → Kept T X) (g : Kept T X → Bool) (does : Asking f g) where
    queues_by : (mine : Bool) (v : Kept T X) → choose mine (unfit v) false ≡ false
        → (choose mine (unfit (f v)) false ≡ false)
        × (one_if (choose mine (cells.may_start v) false) + one_if (choose mine (g v) false)
        ≤ one_if (choose mine (cells.may_start (f v)) false))
    queues_by true v fits = does v fits
    queues_by false v fits = (refl, omega arith)

    queues_in : (t : Task) (found : Option (Cell T X)) → asked_by unfit false t found ≡ false
        → (asked_by (λ v. unfit (f v)) false t found ≡ false)
        × (one_if (asked_by cells.may_start false t found) + one_if (asked_by g false t found)
        ≤ one_if (asked_by (λ v. cells.may_start (f v)) false t found))
    queues_in t None fits = (refl, omega arith)
    queues_in t (Some c) fits = queues_by (c.number == t.number) c.task fits

    one_name : (t u : Task) → is_task t u ≡ true → u ≡ t
    one_name t u is =
        let both = both_true (u.key == t.key) (u.number == t.number) is in
        let key : u.key ≡ t.key = same_number u.key t.key both.0 in
        let number : u.number ≡ t.number = same_number u.number t.number both.1 in
        ap (λ (k : ℕ). record { key = k; number = u.number }) key ∙ ap (λ (n : ℕ). record { key = t.key; number = n }) number

    queues_at : (same : Bool) (t u : Task) (s : Cells T X) → is_task t u ≡ same → Fits t s
        → (choose same (asked (λ v. unfit (f v)) false t s) (asked unfit false t s) ≡ false)
        × (ready t s + one_if (asked g false u s && same)
        ≤ one_if (choose same (asked (λ v. cells.may_start (f v)) false t s) (asked cells.may_start false t s)))
    queues_at true t u s is fits =
        let by = queues_in t (get s.slab t.key) fits in
        let asks : asked g false u s ≡ asked g false t s = ap (λ name. asked g false name s) (one_name t u is) in
        let both : one_if (asked g false u s && true) ≡ one_if (asked g false t s) = one_and (asked g false u s) ∙ ap one_if asks in
        (by.0, (let less = by.1 in omega (arith, less, both)))
      where
        one_and : (b : Bool) → one_if (b && true) ≡ one_if b
        one_and true = refl
        one_and false = refl
    queues_at false t u s is fits = (fits, (let none = none_and (asked g false u s) in omega (arith, none)))
      where
        none_and : (b : Bool) → one_if (b && false) ≡ 0
        none_and true = refl
        none_and false = refl

    -- whichever task is changed so, this one fits on, and is ready where it asks for its queueing
    pub queued_so : (t u : Task) (s : Cells T X) → Fits t s
        → Fits t (changed f u s) × (ready t s + one_if (asked g false u s && is_task t u) ≤ ready t (changed f u s))
    queued_so t u s fits =
        let by = queues_at (is_task t u) t u s refl fits in
        let now : one_if (choose (is_task t u) (asked (λ v. cells.may_start (f v)) false t s) (asked cells.may_start false t s))
        ≡ ready t (changed f u s) =
        ap one_if (sym (asked_changed cells.may_start false f t u s)) in
        (asked_changed unfit false f t u s ∙ by.0, subst (λ n. ready t s + one_if (asked g false u s && is_task t u) ≤ n) now by.1)

  module _ (f : Kept T X → Kept T X) (does : Fitting f) where
    fitting_by : (mine : Bool) (v : Kept T X) → choose mine (unfit v) false ≡ false → choose mine (unfit (f v)) false ≡ false
    fitting_by true v fits = does v fits
    fitting_by false v fits = refl

    fitting_in : (t : Task) (found : Option (Cell T X)) → asked_by unfit false t found ≡ false
        → asked_by (λ v. unfit (f v)) false t found ≡ false
    fitting_in t None fits = refl
    fitting_in t (Some c) fits = fitting_by (c.number == t.number) c.task fits

    fitting_at : (same : Bool) (t : Task) (s : Cells T X) → Fits t s
        → (choose same (asked (λ v. unfit (f v)) false t s) (asked unfit false t s) ≡ false)
        × (ready t s ≤ one_if (choose same (asked (λ v. cells.may_start (f v)) false t s) (asked cells.may_start false t s)) + one_if same)
    fitting_at true t s fits = (fitting_in t (get s.slab t.key) fits, at_most (asked cells.may_start false t s) _)
      where
        at_most : (b : Bool) (n : ℕ) → one_if b ≤ n + 1
        at_most true n = omega arith
        at_most false n = omega arith
    fitting_at false t s fits = (fits, omega arith)

    -- whichever task is changed so, this one fits on, and stays ready unless it is the one
    pub fitting_so : (t u : Task) (s : Cells T X) → Fits t s
        → Fits t (changed f u s) × (ready t s ≤ ready t (changed f u s) + one_if (is_task t u))
    fitting_so t u s fits =
        let by = fitting_at (is_task t u) t s fits in
        let now : one_if (choose (is_task t u) (asked (λ v. cells.may_start (f v)) false t s) (asked cells.may_start false t s))
        ≡ ready t (changed f u s) =
        ap one_if (sym (asked_changed cells.may_start false f t u s)) in
        (asked_changed unfit false f t u s ∙ by.0, subst (λ n. ready t s ≤ n + one_if (is_task t u)) now by.1)

  spent_not_ready : (mine his : Bool) (v : Kept T X) → choose his (cells.is_spent v) false ≡ true
      → choose mine (cells.may_start v) false ≡ false
  spent_not_ready true true v is = spent_place v.future _ (is_queued v.task.phase) is
  spent_not_ready false his v is = refl
  spent_not_ready true false v is = absurd cc

  gone_not_ready : (t u : Task) (found : Option (Cell T X)) → asked_by cells.is_spent false u found ≡ true
      → asked_by cells.may_start false t found ≡ false
  gone_not_ready t u None is = absurd cc
  gone_not_ready t u (Some c) is = spent_not_ready (c.number == t.number) (c.number == u.number) c.task is

  gone_so : (key : Bool) (t u : Task) (s new : Slab (Cell T X)) → (t.key == u.key) ≡ key → Updates s new u.key None
      → asked_by cells.is_spent false u (get s u.key) ≡ true → asked_by unfit false t (get s t.key) ≡ false
      → (asked_by unfit false t (get new t.key) ≡ false)
      × (one_if (asked_by cells.may_start false t (get s t.key)) ≤ one_if (asked_by cells.may_start false t (get new t.key)))
  gone_so true t u s new key gone is fits =
      let one : t.key ≡ u.key = grind (arith, nat_tests) in
      let now : get new t.key ≡ None = ap (get new) one ∙ gone.changed in
      let none : one_if (asked_by cells.may_start false t (get s t.key)) ≡ 0 =
      ap one_if (ap (asked_by cells.may_start false t) (ap (get s) one) ∙ gone_not_ready t u (get s u.key) is) in
      (ap (asked_by unfit false t) now, omega (arith, none))
  gone_so false t u s new key gone is fits =
      let two : t.key ≢ u.key = λ one. absurd (grind (arith, nat_tests)) in
      let same : get new t.key ≡ get s t.key = gone.others t.key two in
      let ready_same : one_if (asked_by cells.may_start false t (get new t.key)) ≡ one_if (asked_by cells.may_start false t (get s t.key)) =
      ap (λ found. one_if (asked_by cells.may_start false t found)) same in
      (ap (asked_by unfit false t) same ∙ fits, omega (arith, ready_same))

  tidied_by : (spent : Bool) (t u : Task) (s : Cells T X) → asked cells.is_spent false u s ≡ spent → Fits t s
      → Fits t (choose spent (record { slab = record s.slab { slots = slice_set s.slab.slots u.key None; vacant_key = u.key } }) s)
      × (ready t s
      ≤ ready t (choose spent (record { slab = record s.slab { slots = slice_set s.slab.slots u.key None; vacant_key = u.key } }) s))
  tidied_by true t u s is fits =
      let new : Slab (Cell T X) = record s.slab { slots = slice_set s.slab.slots u.key None; vacant_key = u.key } in
      gone_so (t.key == u.key) t u s.slab new refl (without_cell s.slab new u.key (get s.slab u.key) u refl is refl) is fits
  tidied_by false t u s is fits = (fits, omega arith)

  -- a task that goes was not ready
  pub tidied_so : (t u : Task) (s : Cells T X) → Fits t s → Fits t (tidied u s) × (ready t s ≤ ready t (tidied u s))
  tidied_so t u s fits = tidied_by (asked cells.is_spent false u s) t u s refl fits
