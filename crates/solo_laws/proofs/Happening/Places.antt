-- A run keeps 512 futures at most, whatever else changes of the list.
use Rattle.std.proofs.Common.{◌≡◌, ℕ, suc, ◌<◌, ◌≤◌, ◌==◌, nat_lt, cond, if◌then◌else◌, count_by, Bool, true, false, List, [], ◌∷◌, ◌++◌}
use Rattle.std.proofs.Common.{filter, length}
use Rattle.std.proofs.Common.{Some, None, refl, sym, subst, arith}
use Rattle.std.proofs.lemmas.Bool.Decides.{nat_tests}
use Rattle.std.proofs.lemmas.List.Sums.{length-filter}
use Rattle.plain_scheduler.specs.State.{Due}
use Rattle.plain_scheduler.specs.Lists.{without}
use Rattle.plain_scheduler.specs.Moves.{is_kept}

abbrev pub FewKept : List Due → Type 0
FewKept ds = (r : ℕ) → length (filter (is_kept r) ds) ≤ 512

module _ (test : Due → Bool) where
  -- one that comes last is one more at most, and only where it passes
  one_last : (xs : List Due) (x : Due) → length (filter test (xs ++ x ∷ [])) ≤ suc (length (filter test xs))
  one_last [] x = by (test x)
    where
      by : (b : Bool) → length (cond b (x ∷ []) []) ≤ 1
      by true = omega arith
      by false = omega arith
  one_last (y ∷ ys) x = by (test y) (one_last ys x)
    where
      by : (b : Bool) → length (filter test (ys ++ x ∷ [])) ≤ suc (length (filter test ys))
          → length (cond b (y ∷ filter test (ys ++ x ∷ [])) (filter test (ys ++ x ∷ [])))
          ≤ suc (length (cond b (y ∷ filter test ys) (filter test ys)))
      by true few = omega (arith, few)
      by false few = few

  none_last : (xs : List Due) (x : Due) → test x ≡ false → length (filter test (xs ++ x ∷ [])) ≤ length (filter test xs)
  none_last [] x not_so = by (test x) not_so
    where
      by : (b : Bool) → b ≡ false → length (cond b (x ∷ []) []) ≤ 0
      by true is = absurd cc
      by false is = omega arith
  none_last (y ∷ ys) x not_so = by (test y) (none_last ys x not_so)
    where
      by : (b : Bool) → length (filter test (ys ++ x ∷ [])) ≤ length (filter test ys)
          → length (cond b (y ∷ filter test (ys ++ x ∷ [])) (filter test (ys ++ x ∷ [])))
          ≤ length (cond b (y ∷ filter test ys) (filter test ys))
      by true few = omega (arith, few)
      by false few = few

  fewer_without : (out : Due → Bool) (xs : List Due) → length (filter test (without out xs)) ≤ length (filter test xs)
  fewer_without out [] = omega arith
  fewer_without out (x ∷ xs) = by (out x) (test x) refl (fewer_without out xs)
    where
      by : (a b : Bool) → test x ≡ b → length (filter test (without out xs)) ≤ length (filter test xs)
          → length (filter test (if a then xs else x ∷ without out xs)) ≤ length (cond b (x ∷ filter test xs) (filter test xs))
      by true true is few = omega arith
      by true false is few = omega arith
      by false true is few =
          subst (λ b. length (cond b (x ∷ filter test (without out xs)) (filter test (without out xs))) ≤ suc (length (filter test xs)))
          (sym is) (omega (arith, few))
      by false false is few =
          subst (λ b. length (cond b (x ∷ filter test (without out xs)) (filter test (without out xs))) ≤ length (filter test xs))
          (sym is) few

pub none_kept : FewKept []
none_kept r = omega arith

pub without_few : (out : Due → Bool) (ds : List Due) → FewKept ds → FewKept (without out ds)
without_few out ds few r = let less = fewer_without (is_kept r) out ds in let most = few r in omega (arith, less, most)

pub last_few : (ds : List Due) (d : Due) → d.keeper ≡ None → FewKept ds → FewKept (ds ++ d ∷ [])
last_few ds d free few r =
    let less = none_last (is_kept r) ds d (kept_by free) in
    let most = few r in
    omega (arith, less, most)
  where
    kept_by : d.keeper ≡ None → is_kept r d ≡ false
    kept_by is = subst (λ o. is_kept r (record d { keeper = o }) ≡ false) (sym is) refl

below : (n m : ℕ) → nat_lt n m ≡ true → n < m
below n m is = grind (arith, nat_tests)

the_same : (n m : ℕ) → (n == m) ≡ true → n ≡ m
the_same n m is = grind (arith, nat_tests)

-- one that a run comes to keep, which has a place for it
pub moved_few : (r : ℕ) (test : Due → Bool) (ds : List Due) (d : Due) → nat_lt (count_by (is_kept r) ds) 512 ≡ true → FewKept ds
    → FewKept (without test ds ++ record d { keeper = Some r } ∷ [])
moved_few r test ds d room few k = by (k == r) refl
  where
    by : (b : Bool) → (k == r) ≡ b → length (filter (is_kept k) (without test ds ++ record d { keeper = Some r } ∷ [])) ≤ 512
    by true is =
        let same = the_same k r is in
        let fits : count_by (is_kept k) ds < 512 = subst (λ n. count_by (is_kept n) ds < 512) (sym same) (below _ 512 room) in
        let long = length-filter (is_kept k) ds in
        let less = fewer_without (is_kept k) test ds in
        let more = one_last (is_kept k) (without test ds) (record d { keeper = Some r }) in
        omega (arith, fits, long, less, more)
    by false is =
        let less = fewer_without (is_kept k) test ds in
        let most = few k in
        let same = none_last (is_kept k) (without test ds) (record d { keeper = Some r }) is in
        omega (arith, less, most, same)
