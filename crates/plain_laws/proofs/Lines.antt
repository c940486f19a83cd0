-- Which futures wait for a run, where one is appended, kept or taken.
use Rattle.std.proofs.Common.{◌≡◌, ℕ, ◌==◌, ◌&&◌, not, cond, Bool, true, false, List, [], ◌∷◌, ◌++◌, map, filter, find}
use Rattle.std.proofs.Common.{Some, None, refl, sym, ap, ◌∙◌, arith}
use Rattle.std.proofs.lemmas.Bool.Decides.{nat_tests}
use Rattle.executor_parts.specs.declared.mark.Mark.{Mark}
use Rattle.executor_parts.specs.Marks.{other, same_mark}
use Rattle.plain_scheduler.specs.State.{Due}
use Rattle.plain_scheduler.specs.Lists.{any, without}
use Rattle.plain_scheduler.specs.Moves.{is_common, is_due, is_kept}
use Rattle.plain_laws.specs.Order.{is_kept_of, is_others, line}
use Rattle.plain_laws.proofs.Words.{assoc, filter_both, filter_first, filter_found, filter_none, filter_without, find_passes}
use Rattle.plain_laws.proofs.Words.{is_itself, map_both, nothing_behind, same_marks}

abbrev pub future_of : Due → ℕ
future_of d = d.future

-- of which mark it is
abbrev pub one_of : Mark → Due → List ℕ
one_of m d = cond (same_mark m d.mark) (d.future ∷ []) []

kept_uncommon : (r : ℕ) (m : Mark) (d : Due) → is_kept r d ≡ true → is_common m d ≡ false
kept_uncommon r m d is = grind (arith, nat_tests)

common_unkept : (r : ℕ) (m n : Mark) (d : Due) → is_common m d ≡ true → is_kept_of n r d ≡ false
common_unkept r m n d is = grind (arith, nat_tests)

unkept_of : (r : ℕ) (m : Mark) (d : Due) → is_kept r d ≡ false → is_kept_of m r d ≡ false
unkept_of r m d is = grind (arith, nat_tests)

common_mark : (m : Mark) (d : Due) → is_common m d ≡ true → m ≡ d.mark
common_mark m d is = grind (arith, nat_tests)

common_elsewhere : (m n : Mark) → same_mark m n ≡ false → (d : Due) → is_common n d ≡ true → is_common m d ≡ false
common_elsewhere m n apart d is = grind (arith, nat_tests)

-- a future that is appended without a keeper waits behind all others
pub line_last : (m : Mark) (r : ℕ) (due : List Due) (f : ℕ) (k : Mark)
    → line m r (due ++ record { future = f; mark = k; keeper = None } ∷ [])
    ≡ line m r due ++ cond (same_mark m k) (f ∷ []) []
line_last m r due f k =
    ap (λ l. map future_of (l ++ filter (is_common m) (due ++ d ∷ [])))
    (filter_both (is_kept_of m r) due (d ∷ []) ∙ nothing_behind (filter (is_kept_of m r) due))
    ∙ (ap (λ l. map future_of (filter (is_kept_of m r) due ++ l)) (filter_both (is_common m) due (d ∷ []))
    ∙ (ap (map future_of) (sym (assoc (filter (is_kept_of m r) due) (filter (is_common m) due) (filter (is_common m) (d ∷ []))))
    ∙ (map_both future_of (filter (is_kept_of m r) due ++ filter (is_common m) due) (filter (is_common m) (d ∷ []))
    ∙ ap (λ l. line m r due ++ l) (by (same_mark m k)))))
  where
    d : Due
    d = record { future = f; mark = k; keeper = None }

    by : (b : Bool) → map future_of (cond b (d ∷ []) []) ≡ cond b (f ∷ []) []
    by true = refl
    by false = refl

-- a run that keeps the first without a keeper, behind those that it keeps, changes no order
pub line_kept : (m n : Mark) (r : ℕ) (due : List Due) (d : Due) → find (is_common n) due ≡ Some d
    → line m r (without (is_common n) due ++ record d { keeper = Some r } ∷ []) ≡ line m r due
line_kept m n r due d is = by (same_mark m n) refl
  where
    kept : Due
    kept = record d { keeper = Some r }

    rest : List Due
    rest = without (is_common n) due

    owns : (b : Bool) → same_mark m d.mark ≡ b → (c : Bool) → (r == r) ≡ c → c ≡ true
        → cond (c && same_mark m d.mark) (kept ∷ []) [] ≡ cond b (kept ∷ []) []
    owns b so c itself it_is = grind (arith, nat_tests)

    keeps : (b : Bool) → same_mark m d.mark ≡ b
        → filter (is_kept_of m r) (rest ++ kept ∷ []) ≡ filter (is_kept_of m r) due ++ cond b (kept ∷ []) []
    keeps b so = grind (arith, nat_tests, filter_both, rest, kept, filter_without, common_unkept, owns, is_itself)

    commons : filter (is_common m) (rest ++ kept ∷ []) ≡ filter (is_common m) rest
    commons = grind (arith, nat_tests, filter_both, rest, kept, nothing_behind)

    marked : same_mark m d.mark ≡ same_mark m n
    marked = grind (arith, nat_tests, common_mark, d, find_passes)

    by : (b : Bool) → same_mark m n ≡ b → line m r (rest ++ kept ∷ []) ≡ line m r due
    by true so =
        ap (λ l. map future_of (l ++ filter (is_common m) (rest ++ kept ∷ []))) (keeps true (marked ∙ so))
        ∙ (ap (λ l. map future_of ((filter (is_kept_of m r) due ++ kept ∷ []) ++ l)) commons
        ∙ (ap (map future_of) (assoc (filter (is_kept_of m r) due) (kept ∷ []) (filter (is_common m) rest))
        ∙ (map_both future_of (filter (is_kept_of m r) due) (kept ∷ filter (is_common m) rest)
        ∙ (sym (map_both future_of (filter (is_kept_of m r) due) (d ∷ filter (is_common m) rest))
        ∙ ap (λ l. map future_of (filter (is_kept_of m r) due ++ l)) (sym whole)))))
      where
        whole : filter (is_common m) due ≡ d ∷ filter (is_common m) rest
        whole = grind (arith, nat_tests, filter_found, d, same_marks)
    by false so =
        ap (λ l. map future_of (l ++ filter (is_common m) (rest ++ kept ∷ []))) (keeps false (marked ∙ so))
        ∙ (ap (λ l. map future_of (l ++ filter (is_common m) (rest ++ kept ∷ []))) (nothing_behind (filter (is_kept_of m r) due))
        ∙ (ap (λ l. map future_of (filter (is_kept_of m r) due ++ l)) commons
        ∙ ap (λ l. map future_of (filter (is_kept_of m r) due ++ l))
        (filter_without (is_common m) (is_common n) (common_elsewhere m n so) due)))

-- the first that a run keeps is the first that waits of its mark
pub line_own : (m : Mark) (r : ℕ) (due : List Due) (d : Due) → find (is_kept r) due ≡ Some d
    → line m r due ≡ one_of m d ++ line m r (without (is_kept r) due)
line_own m r due d is =
    ap (λ l. map future_of (l ++ filter (is_common m) due)) (filter_first (is_kept r) (λ x. same_mark m x.mark) due d is)
    ∙ (ap (λ l. map future_of ((cond (same_mark m d.mark) (d ∷ []) [] ++ filter (is_kept_of m r) rest) ++ l))
    (sym (filter_without (is_common m) (is_kept r) (kept_uncommon r m) due))
    ∙ by (same_mark m d.mark))
  where
    rest : List Due
    rest = without (is_kept r) due

    by : (b : Bool) → map future_of ((cond b (d ∷ []) [] ++ filter (is_kept_of m r) rest) ++ filter (is_common m) rest)
        ≡ cond b (d.future ∷ []) [] ++ line m r rest
    by true = refl
    by false = refl

-- where it keeps none, the first without a keeper is the first that waits of its mark
pub line_common : (m n : Mark) (r : ℕ) (due : List Due) (d : Due) → any (is_kept r) due ≡ false → find (is_common n) due ≡ Some d
    → line m r due ≡ one_of m d ++ line m r (without (is_common n) due)
line_common m n r due d none is =
    ap (λ l. map future_of (l ++ filter (is_common m) due)) none_kept
    ∙ (by (same_mark m n) refl
    ∙ ap (λ l. one_of m d ++ map future_of (l ++ filter (is_common m) rest))
    (sym (filter_without (is_kept_of m r) (is_common n) (λ x. common_unkept r n m x) due ∙ none_kept)))
  where
    rest : List Due
    rest = without (is_common n) due

    none_kept : filter (is_kept_of m r) due ≡ []
    none_kept = grind (arith, nat_tests, filter_none, unkept_of)

    marked : same_mark m d.mark ≡ same_mark m n
    marked = grind (arith, nat_tests, common_mark, d, find_passes)

    by : (b : Bool) → same_mark m n ≡ b
        → map future_of (filter (is_common m) due) ≡ one_of m d ++ map future_of (filter (is_common m) rest)
    by b so = grind (arith, nat_tests, filter_found, d, same_marks, rest, marked, filter_without, common_elsewhere)

-- one that another run doesn't keep is kept by this one or by none
pub kept_by_none : (r k : ℕ) (d : Due) → is_others r d ≡ false → is_kept r d ≡ false → is_kept k d ≡ false
kept_by_none r k d mine is = grind (arith, nat_tests)

pub of_either_mark : (r : ℕ) (m : Mark) (d : Due) → is_others r d ≡ false → is_kept r d ≡ false → is_common m d ≡ false
    → is_common (other m) d ≡ false → is_due d ≡ false
of_either_mark r m d mine is one two = grind (arith, nat_tests)

none_of : (t : Due → Bool) (d : Due) (due : List Due) → any t (d ∷ due) ≡ false → (t d ≡ false) × (any t due ≡ false)
none_of t d due is = grind (arith, nat_tests)

pub none_kept_by : (r k : ℕ) (due : List Due) → any (is_others r) due ≡ false → any (is_kept r) due ≡ false → any (is_kept k) due ≡ false
none_kept_by r k [] mine none = refl
none_kept_by r k (d ∷ due) mine none =
    let one = none_of (is_others r) d due mine in
    let two = none_of (is_kept r) d due none in
    ap (λ b. cond b true (any (is_kept k) due)) (kept_by_none r k d one.0 two.0) ∙ none_kept_by r k due one.1 two.1

pub none_due : (r : ℕ) (m : Mark) (due : List Due) → any (is_others r) due ≡ false → any (is_kept r) due ≡ false
    → any (is_common m) due ≡ false → any (is_common (other m)) due ≡ false → any is_due due ≡ false
none_due r m [] mine none one two = refl
none_due r m (d ∷ due) mine none one two =
    of_either_mark r m d (none_of (is_others r) d due mine).0 (none_of (is_kept r) d due none).0
    (none_of (is_common m) d due one).0 (none_of (is_common (other m)) d due two).0

-- what another run would keep
pub kept_by_other : (r k : ℕ) → not (r == k) ≡ true → (d : Due) → is_others r d ≡ false → is_kept k d ≡ false
kept_by_other r k away d mine = grind (arith, nat_tests)
