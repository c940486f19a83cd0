-- In which order futures of several queues are due is nothing to the executor: its queues are the same, and so they are once a run
-- keeps more.
use Rattle.std.proofs.Common.{◌≡◌, ℕ, zero, suc, ◌≤◌, ◌==◌, cond, nat_lt, if◌then◌else◌, Bool, true, false, List, [], ◌∷◌, ◌++◌, length}
use Rattle.std.proofs.Common.{filter, find, drop, Option, Some, None, slice_get, append-nil, count_by, refl, sym, ap, subst, ◌∙◌, arith}
use Rattle.std.proofs.lemmas.List.Sums.{length-filter}
use Rattle.executor_parts.specs.declared.mark.Mark.{Mark}
use Rattle.executor_parts.specs.declared.mark.Mark.TheVariants.{Plain as PlainMark, Urgent}
use Rattle.solo.specs.declared.names.SoloWaker.{SoloWaker}
use Rattle.plain_scheduler.specs.State.{Due, Plain}
use Rattle.plain_scheduler.specs.Lists.{each, on, repeat, without}
use Rattle.plain_scheduler.specs.Moves.{is_common, is_kept, keeps}
use Rattle.solo_laws.specs.Road.{once, stands}
use Rattle.solo_laws.proofs.Following.Begun.{common_free}
use Rattle.solo_laws.proofs.Following.Due.{found_gone, once_last, once_without, stands_last, stood}
use Rattle.solo_laws.proofs.Following.Lines.{filter_last, find_first, kept_if, without_first, without_other}
use Rattle.solo_laws.proofs.Following.Stealing.{by_run}
use Rattle.solo_laws.proofs.Following.Taking.{apart}

-- each queue is the same, and none is due that isn't there
pub record Same (ds es : List Due) : Type 0 where
  pub commons : (mark : Mark) → filter (is_common mark) ds ≡ filter (is_common mark) es
  pub kept : (k : ℕ) → filter (is_kept k) ds ≡ filter (is_kept k) es
  pub stood_so : (f : ℕ) → stands f ds ≡ true → stands f es ≡ true

itself : (ds : List Due) → Same ds ds
itself ds = record { commons = λ mark. refl; kept = λ k. refl; stood_so = λ f has. has }

and_then : (a b c : List Due) → Same a b → Same b c → Same a c
and_then a b c one two = record {
  commons = λ mark. one.commons mark ∙ two.commons mark;
  kept = λ k. one.kept k ∙ two.kept k;
  stood_so = λ f has. two.stood_so f (one.stood_so f has);
}

module _ (test : Due → Bool) where
  filter_append : (xs ys : List Due) → filter test (xs ++ ys) ≡ filter test xs ++ filter test ys
  filter_append [] ys = refl
  filter_append (x ∷ xs) ys = by (test x) (filter_append xs ys)
    where
      by : (b : Bool) → filter test (xs ++ ys) ≡ filter test xs ++ filter test ys
          → cond b (x ∷ filter test (xs ++ ys)) (filter test (xs ++ ys)) ≡ cond b (x ∷ filter test xs) (filter test xs) ++ filter test ys
      by true rest = ap (λ zs. x ∷ zs) rest
      by false rest = rest

  -- what is found stays so with more behind it
  find_append : (xs ys : List Due) (d : Due) → find test xs ≡ Some d → find test (xs ++ ys) ≡ Some d
  find_append [] ys d is = absurd cc
  find_append (x ∷ xs) ys d is = by (test x) is (find_append xs ys d)
    where
      by : (b : Bool) → cond b (Some x) (find test xs) ≡ Some d → (find test xs ≡ Some d → find test (xs ++ ys) ≡ Some d)
          → cond b (Some x) (find test (xs ++ ys)) ≡ Some d
      by true is rest = is
      by false is rest = rest is

  without_append : (xs ys : List Due) (d : Due) → find test xs ≡ Some d → without test (xs ++ ys) ≡ without test xs ++ ys
  without_append [] ys d is = absurd cc
  without_append (x ∷ xs) ys d is = by (test x) is (without_append xs ys d)
    where
      by : (b : Bool) → cond b (Some x) (find test xs) ≡ Some d → (find test xs ≡ Some d → without test (xs ++ ys) ≡ without test xs ++ ys)
          → cond b (xs ++ ys) (x ∷ without test (xs ++ ys)) ≡ cond b xs (x ∷ without test xs) ++ ys
      by true is rest = refl
      by false is rest = ap (λ zs. x ∷ zs) (rest is)

  -- who isn't found stays
  pub stays : (f : ℕ) (xs : List Due) (d : Due) → find test xs ≡ Some d → (f == d.future) ≡ false → stands f xs ≡ true
      → stands f (without test xs) ≡ true
  stays f [] d is other has = absurd cc
  stays f (x ∷ xs) d is other has = by (test x) is (stays f xs d) has
    where
      same_due : Some x ≡ Some d → x.future ≡ d.future
      same_due same = ap (λ o. by_due o) same
        where
          by_due : Option Due → ℕ
          by_due None = 0
          by_due (Some e) = e.future

      by : (b : Bool) → cond b (Some x) (find test xs) ≡ Some d
          → (find test xs ≡ Some d → (f == d.future) ≡ false → stands f xs ≡ true → stands f (without test xs) ≡ true)
          → cond (f == x.future) true (stands f xs) ≡ true → stands f (cond b xs (x ∷ without test xs)) ≡ true
      by true is rest has =
          sym (ap (λ b. cond b true (stands f xs)) (subst (λ n. (f == n) ≡ false) (sym (same_due is)) other)) ∙ has
      by false is rest has = one (f == x.future) has
        where
          one : (b : Bool) → cond b true (stands f xs) ≡ true → cond b true (stands f (without test xs)) ≡ true
          one true has = refl
          one false has = rest is other has

either : (f : ℕ) (xs ys : List Due) → stands f (xs ++ ys) ≡ cond (stands f xs) true (stands f ys)
either f [] ys = refl
either f (x ∷ xs) ys = by (f == x.future) (either f xs ys)
  where
    by : (b : Bool) → stands f (xs ++ ys) ≡ cond (stands f xs) true (stands f ys)
        → cond b true (stands f (xs ++ ys)) ≡ cond (cond b true (stands f xs)) true (stands f ys)
    by true rest = refl
    by false rest = rest

-- a run keeps one more of a mark
abbrev pub next_due : ℕ → Mark → List Due → List Due
next_due r mark ds =
    if nat_lt (count_by (is_kept r) ds) 512
    then on (find (is_common mark) ds) (λ d ds. without (is_common mark) ds ++ by_run r d ∷ []) ds
    else ds

pub keeps_due : {T X : Type 0} (r : ℕ) (mark : Mark) (p : Plain T (SoloWaker X))
    → keeps r (is_common mark) p ≡ record p { due = next_due r mark p.due }
keeps_due r mark p = by (nat_lt (count_by (is_kept r) p.due) 512) (find (is_common mark) p.due)
  where
    by : (b : Bool) (o : Option Due)
        → (if b then on o (λ d p. record p { due = without (is_common mark) p.due ++ by_run r d ∷ [] }) p else p)
        ≡ record p { due = if b then on o (λ d ds. without (is_common mark) ds ++ by_run r d ∷ []) p.due else p.due }
    by true None = refl
    by true (Some d) = refl
    by false o = refl

abbrev dropped : Mark → Mark → List Due → List Due
dropped PlainMark PlainMark ds = drop 1 ds
dropped Urgent Urgent ds = drop 1 ds
dropped _ _ ds = ds

rest_common : (m n : Mark) (ds : List Due) → filter (is_common n) (without (is_common m) ds) ≡ dropped m n (filter (is_common n) ds)
rest_common PlainMark PlainMark ds = without_first (is_common PlainMark) ds
rest_common Urgent Urgent ds = without_first (is_common Urgent) ds
rest_common PlainMark Urgent ds = without_other (is_common PlainMark) (is_common Urgent) (apart PlainMark) ds
rest_common Urgent PlainMark ds = without_other (is_common Urgent) (is_common PlainMark) (apart Urgent) ds

module _ (r : ℕ) (m : Mark) (d : Due) where
  abbrev next_with : List Due → List Due
  next_with ds = without (is_common m) ds ++ by_run r d ∷ []

  next_common : (n : Mark) (ds : List Due) → filter (is_common n) (next_with ds) ≡ dropped m n (filter (is_common n) ds)
  next_common n ds =
      filter_last (is_common n) (without (is_common m) ds) (by_run r d)
      ∙ (append-nil (filter (is_common n) (without (is_common m) ds)) ∙ rest_common m n ds)

  next_kept : (k : ℕ) (ds : List Due) → filter (is_kept k) (next_with ds)
      ≡ filter (is_kept k) ds ++ kept_if (is_kept k) (k == r) (by_run r d)
  next_kept k ds =
      filter_last (is_kept k) (without (is_common m) ds) (by_run r d)
      ∙ ap (λ es. es ++ kept_if (is_kept k) (k == r) (by_run r d)) (without_other (is_common m) (is_kept k) (common_free m k) ds)

  next_stands : (ds es : List Due) → Same ds es → find (is_common m) es ≡ Some d → (f : ℕ) → stands f (next_with ds) ≡ true
      → stands f (next_with es) ≡ true
  next_stands ds es so is f has = by (f == d.future) refl
    where
      by : (b : Bool) → (f == d.future) ≡ b → stands f (next_with es) ≡ true
      by true one =
          either f (without (is_common m) es) (by_run r d ∷ [])
          ∙ (ap (λ b. cond (stands f (without (is_common m) es)) true (cond b true false)) one
          ∙ last (stands f (without (is_common m) es)))
        where
          last : (b : Bool) → cond b true true ≡ true
          last true = refl
          last false = refl
      by false other =
          either f (without (is_common m) es) (by_run r d ∷ [])
          ∙ ap (λ b. cond b true (stands f (by_run r d ∷ [])))
          (stays (is_common m) f es d is other
          (so.stood_so f (stood (is_common m) f ds (stands_last f (without (is_common m) ds) (by_run r d) has other))))

-- so of lists that are the same
module _ (r : ℕ) (m : Mark) where
  same_count : (ds es : List Due) → filter (is_kept r) ds ≡ filter (is_kept r) es → count_by (is_kept r) ds ≡ count_by (is_kept r) es
  same_count ds es same = sym (length-filter (is_kept r) ds) ∙ (ap (λ (xs : List Due). length xs) same ∙ length-filter (is_kept r) es)

  next_same : (ds es : List Due) → Same ds es → Same (next_due r m ds) (next_due r m es)
  next_same ds es so =
      by (nat_lt (count_by (is_kept r) ds) 512) (find (is_common m) ds)
      (ap (λ n. nat_lt n 512) (sym (same_count ds es (so.kept r))))
      (find_first (is_common m) es ∙ (ap (λ xs. slice_get xs 0) (sym (so.commons m)) ∙ sym (find_first (is_common m) ds)))
    where
      next_by : Bool → Option Due → List Due → List Due
      next_by b o ds = if b then on o (λ d ds. without (is_common m) ds ++ by_run r d ∷ []) ds else ds

      done : (b : Bool) (o : Option Due) → find (is_common m) es ≡ o → Same (next_by b o ds) (next_by b o es)
      done false o is = so
      done true None is = so
      done true (Some d) is = record {
        commons = λ n. next_common r m d n ds ∙ (ap (dropped m n) (so.commons n) ∙ sym (next_common r m d n es));
        kept = λ k.
            next_kept r m d k ds
            ∙ (ap (λ xs. xs ++ kept_if (is_kept k) (k == r) (by_run r d)) (so.kept k) ∙ sym (next_kept r m d k es));
        stood_so = next_stands r m d ds es so is;
      }

      by : (b : Bool) (o : Option Due) → nat_lt (count_by (is_kept r) es) 512 ≡ b → find (is_common m) es ≡ o
          → Same (next_by b o ds) (next_due r m es)
      by b o count is =
          subst (λ c. Same (next_by b o ds) (next_by c (find (is_common m) es) es)) (sym count)
          (subst (λ u. Same (next_by b o ds) (next_by b u es)) (sym is) (done b o is))

  many_same : (n : ℕ) (ds es : List Due) → Same ds es → Same (repeat n (next_due r m) ds) (repeat n (next_due r m) es)
  many_same zero ds es so = so
  many_same (suc n) ds es so = many_same n (next_due r m ds) (next_due r m es) (next_same ds es so)

  -- with others behind, which nobody keeps
  module _ (tail : List Due) (free : (k : ℕ) → filter (is_kept k) tail ≡ []) where
    swap_last : (xs : List Due) (d : Due) → Same ((xs ++ tail) ++ by_run r d ∷ []) ((xs ++ by_run r d ∷ []) ++ tail)
    swap_last xs d = record {
      commons = λ n.
          filter_append (is_common n) (xs ++ tail) (by_run r d ∷ [])
          ∙ (append-nil (filter (is_common n) (xs ++ tail))
          ∙ (filter_append (is_common n) xs tail
          ∙ sym (filter_append (is_common n) (xs ++ by_run r d ∷ []) tail
          ∙ ap (λ es. es ++ filter (is_common n) tail)
          (filter_append (is_common n) xs (by_run r d ∷ []) ∙ append-nil (filter (is_common n) xs)))));
      kept = λ k.
          filter_append (is_kept k) (xs ++ tail) (by_run r d ∷ [])
          ∙ (ap (λ es. es ++ filter (is_kept k) (by_run r d ∷ [])) (bare k xs)
          ∙ (sym (filter_append (is_kept k) xs (by_run r d ∷ [])) ∙ sym (bare k (xs ++ by_run r d ∷ []))));
      stood_so = λ f has.
          either f (xs ++ by_run r d ∷ []) tail
          ∙ (ap (λ b. cond b true (stands f tail)) (either f xs (by_run r d ∷ []))
          ∙ (by (stands f xs) (stands f tail) (stands f (by_run r d ∷ []))
          ∙ (sym (ap (λ b. cond b true (stands f (by_run r d ∷ []))) (either f xs tail))
          ∙ (sym (either f (xs ++ tail) (by_run r d ∷ [])) ∙ has))));
    }
      where
        bare : (k : ℕ) (xs : List Due) → filter (is_kept k) (xs ++ tail) ≡ filter (is_kept k) xs
        bare k xs =
            filter_append (is_kept k) xs tail ∙ (ap (λ es. filter (is_kept k) xs ++ es) (free k) ∙ append-nil (filter (is_kept k) xs))

        by : (a b c : Bool) → cond (cond a true c) true b ≡ cond (cond a true b) true c
        by true b c = refl
        by false true true = refl
        by false true false = refl
        by false false c = one c
          where
            one : (c : Bool) → cond c true false ≡ c
            one true = refl
            one false = refl

    next_behind : (ds : List Due) (d : Due) → find (is_common m) ds ≡ Some d
        → Same (next_due r m (ds ++ tail)) (next_due r m ds ++ tail)
    next_behind ds d is =
        subst (λ b. Same (next_by b (find (is_common m) (ds ++ tail)) (ds ++ tail)) (next_due r m ds ++ tail))
        (ap (λ n. nat_lt n 512) (sym (same_count (ds ++ tail) ds (unkept r))))
        (subst (λ o. Same (next_by (room ds) o (ds ++ tail)) (next_due r m ds ++ tail))
        (sym (find_append (is_common m) ds tail d is))
        (subst (λ o. Same (next_by (room ds) (Some d) (ds ++ tail)) (next_by (room ds) o ds ++ tail)) (sym is) (by (room ds))))
      where
        next_by : Bool → Option Due → List Due → List Due
        next_by b o ds = if b then on o (λ d ds. without (is_common m) ds ++ by_run r d ∷ []) ds else ds

        room : List Due → Bool
        room ds = nat_lt (count_by (is_kept r) ds) 512

        unkept : (k : ℕ) → filter (is_kept k) (ds ++ tail) ≡ filter (is_kept k) ds
        unkept k =
            filter_append (is_kept k) ds tail ∙ (ap (λ es. filter (is_kept k) ds ++ es) (free k) ∙ append-nil (filter (is_kept k) ds))

        by : (b : Bool) → Same (next_by b (Some d) (ds ++ tail)) (next_by b (Some d) ds ++ tail)
        by false = itself (ds ++ tail)
        by true =
            subst (λ xs. Same (xs ++ by_run r d ∷ []) ((without (is_common m) ds ++ by_run r d ∷ []) ++ tail))
            (sym (without_append (is_common m) ds tail d is)) (swap_last (without (is_common m) ds) d)

    pub many_behind : (n : ℕ) (ds : List Due) → n ≤ length (filter (is_common m) ds)
        → Same (repeat n (next_due r m) (ds ++ tail)) (repeat n (next_due r m) ds ++ tail)
    many_behind zero ds enough = itself (ds ++ tail)
    many_behind (suc n) ds enough =
        let f = first_there (filter (is_common m) ds) enough in
        let found : find (is_common m) ds ≡ Some f.0 = find_first (is_common m) ds ∙ f.1 in
        and_then (repeat n (next_due r m) (next_due r m (ds ++ tail))) (repeat n (next_due r m) (next_due r m ds ++ tail))
        (repeat n (next_due r m) (next_due r m ds) ++ tail)
        (many_same n (next_due r m (ds ++ tail)) (next_due r m ds ++ tail) (next_behind ds f.0 found))
        (many_behind n (next_due r m ds) (left f.0 found (nat_lt (count_by (is_kept r) ds) 512)))
      where
        first_there : (es : List Due) → suc n ≤ length es → (d : Due) × (slice_get es 0 ≡ Some d)
        first_there [] enough = absurd (omega (arith, enough))
        first_there (d ∷ es) enough = (d, refl)

        one_less : (es : List Due) → suc n ≤ length es → n ≤ length (drop 1 es)
        one_less [] enough = absurd (omega (arith, enough))
        one_less (d ∷ es) enough = omega (arith, enough)

        dropped_one : (m : Mark) (es : List Due) → dropped m m es ≡ drop 1 es
        dropped_one PlainMark es = refl
        dropped_one Urgent es = refl

        left : (d : Due) → find (is_common m) ds ≡ Some d → (b : Bool)
            → n ≤ length (filter (is_common m)
            (if b then on (find (is_common m) ds) (λ d ds. without (is_common m) ds ++ by_run r d ∷ []) ds else ds))
        left d is false = omega (arith, enough)
        left d is true =
            subst (λ o. n ≤ length (filter (is_common m) (on o (λ d ds. without (is_common m) ds ++ by_run r d ∷ []) ds))) (sym is)
            (subst (λ es. n ≤ length es) (sym (next_common r m d m ds ∙ dropped_one m (filter (is_common m) ds)))
            (one_less (filter (is_common m) ds) enough))

-- and so of several marks
pub each_same : (r : ℕ) (marks : List Mark) (ds es : List Due) → Same ds es
    → Same (each marks (next_due r) ds) (each marks (next_due r) es)
each_same r [] ds es so = so
each_same r (m ∷ marks) ds es so = each_same r marks (next_due r m ds) (next_due r m es) (next_same r m ds es so)

-- each is due once still
module _ (r : ℕ) where
  next_once : (m : Mark) (ds : List Due) → once ds ≡ true → once (next_due r m ds) ≡ true
  next_once m ds all = by (nat_lt (count_by (is_kept r) ds) 512) (find (is_common m) ds) refl
    where
      by : (b : Bool) (o : Option Due) → find (is_common m) ds ≡ o
          → once (if b then on o (λ d ds. without (is_common m) ds ++ by_run r d ∷ []) ds else ds) ≡ true
      by false o is = all
      by true None is = all
      by true (Some d) is =
          once_last (without (is_common m) ds) (by_run r d) (once_without (is_common m) ds all) (found_gone (is_common m) ds d is all)

  pub each_once : (marks : List Mark) (ds : List Due) → once ds ≡ true → once (each marks (next_due r) ds) ≡ true
  each_once [] ds all = all
  each_once (m ∷ marks) ds all = each_once marks (next_due r m ds) (next_once m ds all)
