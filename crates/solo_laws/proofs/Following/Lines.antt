-- What is queued is what is due without a keeper: as one comes last, and as the first is taken.
use Rattle.std.proofs.Common.{◌≡◌, ℕ, suc, ◌+◌, ◌<◌, ◌≤◌, ◌==◌, nat_lt, cond, ◌&&◌, not, Bool, true, false, List, [], ◌∷◌, ◌++◌, map}
use Rattle.std.proofs.Common.{filter, find, drop, Some, None, Option, length, slice_get, append-nil, refl, sym, ap, ◌∙◌, arith}
use Rattle.std.specs.Option.{option_map}
use Rattle.std.proofs.lemmas.Bool.Decides.{nat_tests}
use Rattle.queue_steps.specs.ClosableQueue.{ClosableQueue, most_accepted, taken as shortened}
use Rattle.executor_parts.specs.declared.mark.Mark.{Mark}
use Rattle.executor_parts.specs.declared.mark.Mark.TheVariants.{Plain, Urgent}
use Rattle.solo.specs.declared.names.Task.{Task}
use Rattle.solo.specs.Line.{accepts, has_place, fits, is_spent, pushed, pushed_by}
use Rattle.executor_parts.specs.Marks.{other as other_mark}
use Rattle.solo.specs.Lines.{LinesValue, line_of, pushed_in, first_of, popped_from, taken_by, turned, mark_of_turn, searched}
use Rattle.plain_scheduler.specs.State.{Due}
use Rattle.plain_scheduler.specs.Lists.{any, without}
use Rattle.plain_scheduler.specs.Moves.{is_common}
use Rattle.solo_laws.specs.Road.{due_task, count_of, HasLife}
use Rattle.solo_laws.proofs.Following.Due.{and_true, not_false}
use Rattle.solo_laws.proofs.Following.Lists.{map_append}

module _ {A : Type 0} (test : A → Bool) where
  abbrev pub kept_if : Bool → A → List A
  kept_if true x = x ∷ []
  kept_if false x = []

  joined : (b : Bool) (x : A) (xs ys : List A) → cond b (x ∷ xs ++ ys) (xs ++ ys) ≡ cond b (x ∷ xs) xs ++ ys
  joined true x xs ys = refl
  joined false x xs ys = refl

  pub filter_last : (xs : List A) (x : A) → filter test (xs ++ x ∷ []) ≡ filter test xs ++ kept_if (test x) x
  filter_last [] x = one (test x)
    where
      one : (b : Bool) → cond b (x ∷ []) [] ≡ kept_if b x
      one true = refl
      one false = refl
  filter_last (y ∷ ys) x =
      ap (λ rest. cond (test y) (y ∷ rest) rest) (filter_last ys x)
      ∙ joined (test y) y (filter test ys) (kept_if (test x) x)

  -- the first that passes is the first of those that do, and the rest of these the others
  pub find_first : (xs : List A) → find test xs ≡ slice_get (filter test xs) 0
  find_first [] = refl
  find_first (x ∷ xs) = by (test x) (find_first xs)
    where
      by : (b : Bool) → find test xs ≡ slice_get (filter test xs) 0
          → cond b (Some x) (find test xs) ≡ slice_get (cond b (x ∷ filter test xs) (filter test xs)) 0
      by true is = refl
      by false is = is

  pub without_first : (xs : List A) → filter test (without test xs) ≡ drop 1 (filter test xs)
  without_first [] = refl
  without_first (x ∷ xs) = by (test x) refl (without_first xs)
    where
      by : (b : Bool) → test x ≡ b → filter test (without test xs) ≡ drop 1 (filter test xs)
          → filter test (cond b xs (x ∷ without test xs)) ≡ drop 1 (cond b (x ∷ filter test xs) (filter test xs))
      by true here is = refl
      by false here is = ap (λ c. cond c (x ∷ filter test (without test xs)) (filter test (without test xs))) here ∙ is

  pub any_none : (xs : List A) → any test xs ≡ false → filter test xs ≡ []
  any_none [] is = refl
  any_none (x ∷ xs) is = by (test x) is (any_none xs)
    where
      by : (b : Bool) → cond b true (any test xs) ≡ false → (any test xs ≡ false → filter test xs ≡ [])
          → cond b (x ∷ filter test xs) (filter test xs) ≡ []
      by true is rest = absurd cc
      by false is rest = rest is

  -- what passes another test that none of these passes stays
  pub without_other : (other : A → Bool) → ((x : A) → test x ≡ true → other x ≡ false) → (xs : List A)
      → filter other (without test xs) ≡ filter other xs
  without_other other apart [] = refl
  without_other other apart (x ∷ xs) = by (test x) refl (without_other other apart xs)
    where
      by : (b : Bool) → test x ≡ b → filter other (without test xs) ≡ filter other xs
          → filter other (cond b xs (x ∷ without test xs)) ≡ cond (other x) (x ∷ filter other xs) (filter other xs)
      by true here is = sym (ap (λ c. cond c (x ∷ filter other xs) (filter other xs)) (apart x here))
      by false here is = ap (λ rest. cond (other x) (x ∷ rest) rest) is

pub pushed_last : (task : Task) (q : ClosableQueue Task) → accepts q ≡ true → (pushed task q).items ≡ q.items ++ task ∷ []
pushed_last task q is = by (has_place q) (is_spent q.accepted) is
  where
    by : (place spent : Bool) → (place && not spent) ≡ true → (pushed_by place spent task q).items ≡ q.items ++ task ∷ []
    by true true is = absurd cc
    by true false is = refl
    by false spent is = absurd cc

-- a task is queued as its future comes last
module _ (name : ℕ → Task) (due : List Due) (f : ℕ) where
  abbrev pub last : Mark → Due
  last mark = record { future = f; mark = mark; keeper = None }

  comes : (mark other : Mark) (items : List Task) → items ≡ map (due_task name) (filter (is_common other) due)
      → items ++ map (due_task name) (kept_if (is_common other) (is_common other (last mark)) (last mark))
      ≡ map (due_task name) (filter (is_common other) (due ++ last mark ∷ []))
  comes mark other items is =
      ap (λ (items : List Task). items ++ map (due_task name) (kept_if (is_common other) (is_common other (last mark))
      (last mark))) is
      ∙ (sym (map_append (due_task name) (filter (is_common other) due)
      (kept_if (is_common other) (is_common other (last mark)) (last mark)))
      ∙ sym (ap (map (due_task name)) (filter_last (is_common other) due (last mark))))

  pub lined : (mark : Mark) (l : LinesValue) → accepts (line_of mark l) ≡ true
      → ((other : Mark) → (line_of other l).items ≡ map (due_task name) (filter (is_common other) due))
      → (other : Mark) → (line_of other (pushed_in mark (name f) l)).items
      ≡ map (due_task name) (filter (is_common other) (due ++ last mark ∷ []))
  lined Plain l is lines Plain = pushed_last (name f) l.plain is ∙ comes Plain Plain l.plain.items (lines Plain)
  lined Urgent l is lines Urgent = pushed_last (name f) l.urgent is ∙ comes Urgent Urgent l.urgent.items (lines Urgent)
  lined Plain l is lines Urgent = sym (append-nil l.urgent.items) ∙ comes Plain Urgent l.urgent.items (lines Urgent)
  lined Urgent l is lines Plain = sym (append-nil l.plain.items) ∙ comes Urgent Plain l.plain.items (lines Plain)

-- the queues stay open, and as long
module _ (task : Task) where
  kept_open : (q : ClosableQueue Task) → accepts q ≡ true → ((pushed task q).closed ≡ q.closed) ×
      ((pushed task q).capacity ≡ q.capacity)
  kept_open q is = by (has_place q) (is_spent q.accepted) is
    where
      by : (place spent : Bool) → (place && not spent) ≡ true
          → ((pushed_by place spent task q).closed ≡ q.closed) × ((pushed_by place spent task q).capacity ≡ q.capacity)
      by true true is = absurd cc
      by true false is = (refl, refl)
      by false spent is = absurd cc

  pub unclosed : (mark : Mark) (l : LinesValue) → accepts (line_of mark l) ≡ true
      → ((other : Mark) → (line_of other l).closed ≡ false)
      → (other : Mark) → (line_of other (pushed_in mark task l)).closed ≡ false
  unclosed Plain l is all Plain = (kept_open l.plain is).0 ∙ all Plain
  unclosed Urgent l is all Urgent = (kept_open l.urgent is).0 ∙ all Urgent
  unclosed Plain l is all Urgent = all Urgent
  unclosed Urgent l is all Plain = all Plain

  pub as_long : (mark : Mark) (l : LinesValue) → accepts (line_of mark l) ≡ true → (limit : ℕ)
      → ((other : Mark) → (line_of other l).capacity ≡ Some limit) → (other : Mark)
      → (line_of other (pushed_in mark task l)).capacity ≡ Some limit
  as_long Plain l is limit all Plain = (kept_open l.plain is).1 ∙ all Plain
  as_long Urgent l is limit all Urgent = (kept_open l.urgent is).1 ∙ all Urgent
  as_long Plain l is limit all Urgent = all Urgent
  as_long Urgent l is limit all Plain = all Plain

-- with room for one more fewer are left
less : (o : Option ℕ) (more : ℕ) → count_of o + suc more ≤ most_accepted
    → count_of (option_map (λ n. n + 1) o) + more ≤ most_accepted
less None more is = omega (arith, is)
less (Some n) more is = omega (arith, is)

fewer : (o : Option ℕ) (more : ℕ) → count_of o + suc more ≤ most_accepted → count_of o + more ≤ most_accepted
fewer o more is = omega (arith, is)

pub younger : (more : ℕ) (l : LinesValue) → HasLife (suc more) l → HasLife more l
younger more l life mark = fewer (line_of mark l).accepted more (life mark)

module _ (task : Task) (more : ℕ) where
  pub pushed_life : (q : ClosableQueue Task) → count_of q.accepted + suc more ≤ most_accepted
      → count_of (pushed task q).accepted + more ≤ most_accepted
  pushed_life q is = by (has_place q) (is_spent q.accepted)
    where
      by : (place spent : Bool) → count_of (pushed_by place spent task q).accepted + more ≤ most_accepted
      by true true = fewer q.accepted more is
      by true false = less q.accepted more is
      by false spent = fewer q.accepted more is

  pub life_pushed : (mark : Mark) (l : LinesValue) → HasLife (suc more) l → HasLife more (pushed_in mark task l)
  life_pushed Plain l life Plain = pushed_life l.plain (life Plain)
  life_pushed Urgent l life Urgent = pushed_life l.urgent (life Urgent)
  life_pushed Plain l life Urgent = fewer l.urgent.accepted more (life Urgent)
  life_pushed Urgent l life Plain = fewer l.plain.accepted more (life Plain)

-- an open queue with room and life accepts
pub accepts_more : (q : ClosableQueue Task) (limit : ℕ) → q.closed ≡ false → q.capacity ≡ Some limit → length q.items < limit
    → count_of q.accepted + 1 ≤ most_accepted → accepts q ≡ true
accepts_more q limit is_open long short life =
    and_true (has_place q) (not (is_spent q.accepted))
    (and_true (not q.closed) (fits q.capacity (length q.items)) (not_false q.closed is_open)
    (ap (λ o. fits o (length q.items)) long ∙ below (length q.items) limit short))
    (not_false (is_spent q.accepted) (unspent q.accepted life))
  where
    below : (n m : ℕ) → n < m → nat_lt n m ≡ true
    below n m is = grind (arith, nat_tests)

    unspent : (o : Option ℕ) → count_of o + 1 ≤ most_accepted → is_spent o ≡ false
    unspent None is = refl
    unspent (Some n) is = apart n most_accepted is
      where
        apart : (n m : ℕ) → n + 1 ≤ m → (n == m) ≡ false
        apart n m is = grind (arith, nat_tests)

-- what a search leaves of a queue but its items
module _ {B : Type 0} (ask : ClosableQueue Task → B) (same : (q : ClosableQueue Task) → ask (shortened q) ≡ ask q) where
  pub popped_same : (mark other : Mark) (l : LinesValue) → ask (line_of other (popped_from mark l)) ≡ ask (line_of other l)
  popped_same Plain Plain l = same l.plain
  popped_same Plain Urgent l = refl
  popped_same Urgent Plain l = refl
  popped_same Urgent Urgent l = same l.urgent

  pub taken_same : (o : Option Task) (mark asked : Mark) (l : LinesValue) → ask (line_of asked (taken_by o mark l))
      ≡ ask (line_of asked l)
  taken_same None mark asked l = popped_same (other_mark mark) asked l
  taken_same (Some t) mark asked l = refl

  turned_same : (mark : Mark) (l : LinesValue) → ask (line_of mark (turned l)) ≡ ask (line_of mark l)
  turned_same Plain l = refl
  turned_same Urgent l = refl

  pub searched_same : (mark : Mark) (l : LinesValue) → ask (line_of mark (searched l)) ≡ ask (line_of mark l)
  searched_same mark l =
      let m : Mark = mark_of_turn l.turn in
      taken_same (first_of m (turned l)) m mark (popped_from m (turned l))
      ∙ (popped_same m mark (turned l) ∙ turned_same mark l)
