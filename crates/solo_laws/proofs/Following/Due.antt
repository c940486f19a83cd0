-- Each future is due at most once and only while it isn't dropped: so fewer are due than the limit, where one more comes.
use Rattle.std.proofs.Common.{◌≡◌, ℕ, zero, suc, ◌+◌, ◌≤◌, ◌==◌, cond, ◌&&◌, not, Bool, true, false, List, [], ◌∷◌, ◌++◌, length, filter}
use Rattle.std.proofs.Common.{find, Option, Some, None, slice_get, slice_set, refl, sym, ap, subst, ◌∙◌, arith}
use Rattle.std.proofs.lemmas.Bool.Decides.{nat_tests}
use Rattle.plain_scheduler.specs.State.{Due, Future}
use Rattle.plain_scheduler.specs.Lists.{without}
use Rattle.plain_scheduler.specs.Calls.{living_from}
use Rattle.solo_laws.specs.Road.{stands, once, beside, is_in}
use Rattle.solo_laws.proofs.Following.Cells.{same_number}

pub clash : {b : Bool} → b ≡ false → b ≡ true → ⊥
clash off so = absurd cc

pub both_true : (a b : Bool) → (a && b) ≡ true → (a ≡ true) × (b ≡ true)
both_true true b is = (refl, is)
both_true false b is = absurd cc

pub and_true : (a b : Bool) → a ≡ true → b ≡ true → (a && b) ≡ true
and_true true b here is = is
and_true false b here is = absurd cc

pub not_true : (a : Bool) → not a ≡ true → a ≡ false
not_true true is = absurd cc
not_true false is = refl

pub not_false : (a : Bool) → a ≡ false → not a ≡ true
not_false true is = absurd cc
not_false false is = refl

pub neither : (a b : Bool) → cond a true b ≡ false → (a ≡ false) × (b ≡ false)
neither true b is = absurd cc
neither false b is = (refl, is)

nor : (a b : Bool) → a ≡ false → b ≡ false → cond a true b ≡ false
nor true b here is = absurd cc
nor false b here is = is

pub later : (a b : Bool) → b ≡ true → cond a true b ≡ true
later true b is = refl
later false b is = is

pub equal : (n m : ℕ) → n ≡ m → (n == m) ≡ true
equal n m is = grind (arith, nat_tests)

module _ (test : Due → Bool) where
  pub stands_without : (f : ℕ) (ds : List Due) → stands f ds ≡ false → stands f (without test ds) ≡ false
  stands_without f [] is = is
  stands_without f (d ∷ ds) is = by (test d) (stands_without f ds (neither (f == d.future) (stands f ds) is).1)
    where
      by : (b : Bool) → stands f (without test ds) ≡ false → stands f (cond b ds (d ∷ without test ds)) ≡ false
      by true rest = (neither (f == d.future) (stands f ds) is).1
      by false rest = nor (f == d.future) (stands f (without test ds)) (neither (f == d.future) (stands f ds) is).0 rest

  pub stood : (f : ℕ) (ds : List Due) → stands f (without test ds) ≡ true → stands f ds ≡ true
  stood f ds is = by (stands f ds) refl
    where
      by : (b : Bool) → stands f ds ≡ b → b ≡ true
      by true here = refl
      by false here = absurd (clash (stands_without f ds here) is)

  pub once_without : (ds : List Due) → once ds ≡ true → once (without test ds) ≡ true
  once_without [] is = refl
  once_without (d ∷ ds) is = by (test d) (once_without ds (both_true (not (stands d.future ds)) (once ds) is).1)
    where
      by : (b : Bool) → once (without test ds) ≡ true → once (cond b ds (d ∷ without test ds)) ≡ true
      by true rest = (both_true (not (stands d.future ds)) (once ds) is).1
      by false rest =
          let two = both_true (not (stands d.future ds)) (once ds) is in
          and_true (not (stands d.future (without test ds))) (once (without test ds))
          (not_false (stands d.future (without test ds)) (stands_without d.future ds (not_true (stands d.future ds) two.0)))
          rest

  some : (d e : Due) → ◌≡◌ {A = Option Due} (Some d) (Some e) → d ≡ e
  some d e is = ap (λ o. by o) is
    where
      by : Option Due → Due
      by None = d
      by (Some x) = x

  pub found_stands : (ds : List Due) (d : Due) → find test ds ≡ Some d → stands d.future ds ≡ true
  found_stands [] d is = absurd cc
  found_stands (e ∷ ds) d is = by (test e) (found_stands ds d) is
    where
      by : (b : Bool) → (find test ds ≡ Some d → stands d.future ds ≡ true) → cond b (Some e) (find test ds) ≡ Some d
          → cond (d.future == e.future) true (stands d.future ds) ≡ true
      by true rest here =
          ap (λ b. cond b true (stands d.future ds)) (equal d.future e.future (sym (ap (λ (x : Due). x.future) (some e d here))))
      by false rest here = later (d.future == e.future) (stands d.future ds) (rest here)

  -- what is found is due no more
  pub found_gone : (ds : List Due) (d : Due) → find test ds ≡ Some d → once ds ≡ true → stands d.future (without test ds) ≡ false
  found_gone [] d is one = absurd cc
  found_gone (e ∷ ds) d is one = by (test e) (λ here. found_gone ds d here
      (both_true (not (stands e.future ds)) (once ds) one).1) is
    where
      two : (not (stands e.future ds) ≡ true) × (once ds ≡ true)
      two = both_true (not (stands e.future ds)) (once ds) one

      apart : (b : Bool) → (d.future == e.future) ≡ b → stands d.future ds ≡ true → b ≡ false
      apart true same here =
          absurd (clash (not_true (stands e.future ds) two.0)
          (subst (λ n. stands n ds ≡ true) (same_number d.future e.future same) here))
      apart false same here = refl

      by : (b : Bool) → (find test ds ≡ Some d → stands d.future (without test ds) ≡ false) → cond b (Some e) (find test ds)
          ≡ Some d
          → stands d.future (cond b ds (e ∷ without test ds)) ≡ false
      by true rest here =
          subst (λ (x : Due). stands x.future ds ≡ false) (some e d here) (not_true (stands e.future ds) two.0)
      by false rest here =
          nor (d.future == e.future) (stands d.future (without test ds))
          (apart (d.future == e.future) refl (found_stands ds d here))
          (rest here)

pub stands_last : (f : ℕ) (ds : List Due) (d : Due) → stands f (ds ++ d ∷ []) ≡ true → (f == d.future) ≡ false → stands f ds
    ≡ true
stands_last f [] d is apart = absurd (clash (nor (f == d.future) false apart refl) is)
stands_last f (e ∷ ds) d is apart = by (f == e.future) (λ here. stands_last f ds d here apart) is
  where
    by : (b : Bool) → (stands f (ds ++ d ∷ []) ≡ true → stands f ds ≡ true) → cond b true (stands f (ds ++ d ∷ [])) ≡ true
        → cond b true (stands f ds) ≡ true
    by true rest here = refl
    by false rest here = rest here

stands_not : (f : ℕ) (ds : List Due) (d : Due) → stands f ds ≡ false → (f == d.future) ≡ false → stands f (ds ++ d ∷ []) ≡ false
stands_not f [] d is apart = nor (f == d.future) false apart refl
stands_not f (e ∷ ds) d is apart =
    let two = neither (f == e.future) (stands f ds) is in
    nor (f == e.future) (stands f (ds ++ d ∷ [])) two.0 (stands_not f ds d two.1 apart)

pub once_last : (ds : List Due) (d : Due) → once ds ≡ true → stands d.future ds ≡ false → once (ds ++ d ∷ []) ≡ true
once_last [] d one none = refl
once_last (e ∷ ds) d one none =
    let two = both_true (not (stands e.future ds)) (once ds) one in
    let no = neither (d.future == e.future) (stands d.future ds) none in
    and_true (not (stands e.future (ds ++ d ∷ []))) (once (ds ++ d ∷ []))
    (not_false (stands e.future (ds ++ d ∷ []))
    (stands_not e.future ds d (not_true (stands e.future ds) two.0) (turn d.future e.future no.0)))
    (once_last ds d two.1 no.1)
  where
    turn : (n m : ℕ) → (n == m) ≡ false → (m == n) ≡ false
    turn n m is = grind (arith, nat_tests)

pub beside_last : (o : Option Due) (ds : List Due) (d : Due) → beside o (ds ++ d ∷ []) ≡ beside o ds ++ d ∷ []
beside_last None ds d = refl
beside_last (Some e) ds d = refl

pub beside_long : (o : Option Due) (ds : List Due) → length ds ≤ length (beside o ds)
beside_long None ds = omega arith
beside_long (Some e) ds = omega arith

-- as many as there are numbers for them
shorter : (f : ℕ) (xs : List ℕ) → is_in f xs ≡ true → suc (length (without (λ x. f == x) xs)) ≡ length xs
shorter f [] is = absurd cc
shorter f (x ∷ xs) is = by (f == x) (shorter f xs) is
  where
    by : (b : Bool) → (is_in f xs ≡ true → suc (length (without (λ x. f == x) xs)) ≡ length xs) → cond b true (is_in f xs) ≡ true
        → suc (length (cond b xs (x ∷ without (λ x. f == x) xs))) ≡ suc (length xs)
    by true rest here = refl
    by false rest here = ap suc (rest here)

still : (f g : ℕ) (xs : List ℕ) → (f == g) ≡ false → is_in g xs ≡ true → is_in g (without (λ x. f == x) xs) ≡ true
still f g [] apart is = is
still f g (x ∷ xs) apart is = by (f == x) (g == x) (still f g xs apart) refl refl is
  where
    one : (f == x) ≡ true → (g == x) ≡ true → (f == g) ≡ true
    one here there = equal f g (same_number f x here ∙ sym (same_number g x there))

    by : (b c : Bool) → (is_in g xs ≡ true → is_in g (without (λ x. f == x) xs) ≡ true) → (f == x) ≡ b → (g == x) ≡ c
        → cond c true (is_in g xs) ≡ true
        → is_in g (cond b xs (x ∷ without (λ x. f == x) xs)) ≡ true
    by true true rest here there is = absurd (clash apart (one here there))
    by true false rest here there is = is
    by false true rest here there is = ap (λ b. cond b true (is_in g (without (λ x. f == x) xs))) there
    by false false rest here there is =
        later (g == x) (is_in g (without (λ x. f == x) xs)) (rest is)

pub room : (ds : List Due) (xs : List ℕ) → once ds ≡ true → ((f : ℕ) → stands f ds ≡ true → is_in f xs ≡ true)
    → length ds ≤ length xs
room [] xs one all = omega arith
room (d ∷ ds) xs one all =
    let two = both_true (not (stands d.future ds)) (once ds) one in
    let here : is_in d.future xs ≡ true =
    all d.future (ap (λ b. cond b true (stands d.future ds)) (equal d.future d.future refl)) in
    let rest : length ds ≤ length (without (λ x. d.future == x) xs) =
    room ds (without (λ x. d.future == x) xs) two.1
    (λ f is. still d.future f xs (apart f (not_true (stands d.future ds) two.0) is)
    (all f (later (f == d.future) (stands f ds) is))) in
    omega (arith, rest, shorter d.future xs here)
  where
    apart : (f : ℕ) → stands d.future ds ≡ false → stands f ds ≡ true → (d.future == f) ≡ false
    apart f none is = by (d.future == f) refl
      where
        by : (b : Bool) → (d.future == f) ≡ b → b ≡ false
        by true same = absurd (clash none (subst (λ n. stands n ds ≡ true) (sym (same_number d.future f same)) is))
        by false same = refl

pub filter_short : {B : Type 0} (test : B → Bool) (xs : List B) → length (filter test xs) ≤ length xs
filter_short test [] = omega arith
filter_short test (x ∷ xs) = by (test x) (filter_short test xs)
  where
    by : (b : Bool) → length (filter test xs) ≤ length xs → length (cond b (x ∷ filter test xs) (filter test xs)) ≤ suc
        (length xs)
    by true is = omega (arith, is)
    by false is = omega (arith, is)

module _ {T A : Type 0} where
  -- a future that isn't dropped is one of the living
  pub lives : (fs : List (Future T A)) (n i at : ℕ) (x : Future T A) → at ≡ n + i → slice_get fs i ≡ Some x → x.is_dropped ≡ false
      → is_in at (living_from n fs) ≡ true
  lives [] n i at x same is here = absurd cc
  lives (y ∷ ys) n zero at x same is here =
      let it : y.is_dropped ≡ false = ap (λ (o : Option (Future T A)). by o) is ∙ here in
      ap (λ b. is_in at (cond b (living_from (suc n) ys) (n ∷ living_from (suc n) ys))) it
      ∙ ap (λ b. cond b true (is_in at (living_from (suc n) ys))) (equal at n (omega (arith, same)))
    where
      by : Option (Future T A) → Bool
      by None = false
      by (Some x) = x.is_dropped
  lives (y ∷ ys) n (suc i) at x same is here = by y.is_dropped (lives ys (suc n) i at x (omega (arith, same)) is here)
    where
      by : (b : Bool) → is_in at (living_from (suc n) ys) ≡ true
          → is_in at (cond b (living_from (suc n) ys) (n ∷ living_from (suc n) ys)) ≡ true
      by true rest = rest
      by false rest = later (at == n) (is_in at (living_from (suc n) ys)) rest

  -- whose future isn't changed
  pub living_set : (fs : List (Future T A)) (n i : ℕ) (x y : Future T A) → slice_get fs i ≡ Some x → y.is_dropped ≡ x.is_dropped
      → living_from n (slice_set fs i y) ≡ living_from n fs
  living_set [] n i x y is same = refl
  living_set (z ∷ zs) n zero x y is same =
      ap (λ b. cond b (living_from (suc n) zs) (n ∷ living_from (suc n) zs))
      (same ∙ sym (ap (λ (o : Option (Future T A)). by o) is))
    where
      by : Option (Future T A) → Bool
      by None = false
      by (Some x) = x.is_dropped
  living_set (z ∷ zs) n (suc i) x y is same =
      ap (λ rest. cond z.is_dropped rest (n ∷ rest)) (living_set zs (suc n) i x y is same)
