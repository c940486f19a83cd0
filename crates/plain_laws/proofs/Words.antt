-- Words on lists and tests.
use Rattle.std.proofs.Common.{◌≡◌, ℕ, zero, suc, ◌+◌, ◌==◌, ◌&&◌, nat_lt, cond, Bool, true, false, List, [], ◌∷◌, ◌++◌, length, map}
use Rattle.std.proofs.Common.{drop, count_by, filter, find, is_some, Option, Some, None, slice_get, slice_set, refl, ap, ◌∙◌}
use Rattle.std.proofs.Common.{arith}
use Rattle.std.proofs.lemmas.Bool.Decides.{nat_tests}
use Rattle.executor_parts.specs.declared.mark.Mark.{Mark}
use Rattle.executor_parts.specs.Marks.{same_mark}
use Rattle.plain_scheduler.specs.Lists.{any, or, without}

pub is_itself : (n : ℕ) → (n == n) ≡ true
is_itself n = grind (arith, nat_tests)

pub same_number : (a b : ℕ) → (a == b) ≡ true → a ≡ b
same_number a b is = grind (arith, nat_tests, is)

pub not_below_itself : (n : ℕ) → nat_lt n n ≡ false
not_below_itself n = grind (arith, nat_tests)

pub not_below_zero : (n : ℕ) → nat_lt n 0 ≡ false
not_below_zero n = grind (arith, nat_tests)

pub below_next : (n : ℕ) → nat_lt n (n + 1) ≡ true
below_next n = grind (arith, nat_tests)

pub both_true : (a b : Bool) → (a && b) ≡ true → (a ≡ true) × (b ≡ true)
both_true a b is = grind (arith, nat_tests)

pub both_so : (a b : Bool) → a ≡ true → b ≡ true → (a && b) ≡ true
both_so a b one two = grind (arith, nat_tests)

pub same_marks : (m n : Mark) → same_mark m n ≡ true → m ≡ n
same_marks m n is = grind (arith, nat_tests)

module _ {X : Type 0} where
  pub assoc : (xs ys zs : List X) → (xs ++ ys) ++ zs ≡ xs ++ (ys ++ zs)
  assoc [] ys zs = refl
  assoc (x ∷ xs) ys zs = ap (λ l. x ∷ l) (assoc xs ys zs)

  pub nothing_behind : (xs : List X) → xs ++ [] ≡ xs
  nothing_behind [] = refl
  nothing_behind (x ∷ xs) = ap (λ l. x ∷ l) (nothing_behind xs)

  pub drop_front : (xs ys : List X) → drop (length xs) (xs ++ ys) ≡ ys
  drop_front [] ys = refl
  drop_front (x ∷ xs) ys = drop_front xs ys

  pub filter_both : (t : X → Bool) (xs ys : List X) → filter t (xs ++ ys) ≡ filter t xs ++ filter t ys
  filter_both t [] ys = refl
  filter_both t (x ∷ xs) ys = by (t x) (filter_both t xs ys)
    where
      by : (b : Bool) → filter t (xs ++ ys) ≡ filter t xs ++ filter t ys
          → cond b (x ∷ filter t (xs ++ ys)) (filter t (xs ++ ys)) ≡ cond b (x ∷ filter t xs) (filter t xs) ++ filter t ys
      by b is = grind (arith, nat_tests)

  -- a list without the first that passes a test, by another that this one doesn't pass
  pub filter_without : (t s : X → Bool) → ((x : X) → s x ≡ true → t x ≡ false) → (xs : List X)
      → filter t (without s xs) ≡ filter t xs
  filter_without t s other [] = refl
  filter_without t s other (x ∷ xs) = by (s x) refl (filter_without t s other xs)
    where
      late : (b : Bool) → filter t (without s xs) ≡ filter t xs
          → cond b (x ∷ filter t (without s xs)) (filter t (without s xs)) ≡ cond b (x ∷ filter t xs) (filter t xs)
      late b is = grind (arith, nat_tests)

      by : (b : Bool) → s x ≡ b → filter t (without s xs) ≡ filter t xs
          → filter t (cond b xs (x ∷ without s xs)) ≡ cond (t x) (x ∷ filter t xs) (filter t xs)
      by b is rest = grind (arith, nat_tests)

  -- the first that passes a test is the first of those that pass it and another, if it passes that
  pub filter_first : (s g : X → Bool) (xs : List X) (d : X) → find s xs ≡ Some d
      → filter (λ x. s x && g x) xs ≡ cond (g d) (d ∷ []) [] ++ filter (λ x. s x && g x) (without s xs)
  filter_first s g [] d is = absurd cc
  filter_first s g (x ∷ xs) d is = by (filter_first s g xs d) (s x) refl is
    where
      here : (b : Bool) → cond b (x ∷ filter (λ x. s x && g x) xs) (filter (λ x. s x && g x) xs)
          ≡ cond b (x ∷ []) [] ++ filter (λ x. s x && g x) xs
      here true = refl
      here false = refl

      the_same : Some x ≡ Some d → x ≡ d
      the_same is = cc

      by : (find s xs ≡ Some d
          → filter (λ x. s x && g x) xs ≡ cond (g d) (d ∷ []) [] ++ filter (λ x. s x && g x) (without s xs))
          → (b : Bool) → s x ≡ b → cond b (Some x) (find s xs) ≡ Some d
          → cond (b && g x) (x ∷ filter (λ x. s x && g x) xs) (filter (λ x. s x && g x) xs)
          ≡ cond (g d) (d ∷ []) [] ++ filter (λ x. s x && g x) (cond b xs (x ∷ without s xs))
      by rest b so is = grind (arith, nat_tests)

  pub filter_found : (s : X → Bool) (xs : List X) (d : X) → find s xs ≡ Some d → filter s xs ≡ d ∷ filter s (without s xs)
  filter_found s [] d is = absurd cc
  filter_found s (x ∷ xs) d is = by (filter_found s xs d) (s x) refl is
    where
      the_same : Some x ≡ Some d → x ≡ d
      the_same is = cc

      by : (find s xs ≡ Some d → filter s xs ≡ d ∷ filter s (without s xs)) → (b : Bool) → s x ≡ b → cond b (Some x) (find s xs) ≡ Some d
          → cond b (x ∷ filter s xs) (filter s xs) ≡ d ∷ filter s (cond b xs (x ∷ without s xs))
      by rest b so is = grind (arith, nat_tests)

  pub filter_none : (t s : X → Bool) → ((x : X) → s x ≡ false → t x ≡ false) → (xs : List X) → any s xs ≡ false → filter t xs ≡ []
  filter_none t s other [] none = refl
  filter_none t s other (x ∷ xs) none = by (filter_none t s other xs) (s x) refl none
    where
      by : (any s xs ≡ false → filter t xs ≡ []) → (b : Bool) → s x ≡ b → cond b true (any s xs) ≡ false
          → cond (t x) (x ∷ filter t xs) (filter t xs) ≡ []
      by rest b is none = grind (arith, nat_tests)

  pub find_passes : (s : X → Bool) (xs : List X) (d : X) → find s xs ≡ Some d → s d ≡ true
  find_passes s [] d is = absurd cc
  find_passes s (x ∷ xs) d is = by (find_passes s xs d) (s x) refl is
    where
      the_same : Some x ≡ Some d → x ≡ d
      the_same is = cc

      by : (find s xs ≡ Some d → s d ≡ true) → (b : Bool) → s x ≡ b → cond b (Some x) (find s xs) ≡ Some d → s d ≡ true
      by rest b so is = grind (arith, nat_tests)

  pub find_nothing : (xs : List X) → find (λ (x : X). false) xs ≡ None
  find_nothing [] = refl
  find_nothing (x ∷ xs) = find_nothing xs

  -- where none passes a test: of both parts of a list, and of what is found
  pub none_found : (t s : X → Bool) (xs : List X) (d : X) → any t xs ≡ false → find s xs ≡ Some d → t d ≡ false
  none_found t s [] d none is = absurd cc
  none_found t s (x ∷ xs) d none is = by (none_found t s xs d) (t x) refl (s x) none is
    where
      the_same : Some x ≡ Some d → x ≡ d
      the_same is = cc

      by : (any t xs ≡ false → find s xs ≡ Some d → t d ≡ false)
          → (a : Bool) → t x ≡ a → (b : Bool) → cond a true (any t xs) ≡ false → cond b (Some x) (find s xs) ≡ Some d → t d ≡ false
      by rest a so b none is = grind (arith, nat_tests)

  pub none_without : (t s : X → Bool) (xs : List X) → any t xs ≡ false → any t (without s xs) ≡ false
  none_without t s [] none = refl
  none_without t s (x ∷ xs) none = by (none_without t s xs) (t x) refl (s x) none
    where
      by : (any t xs ≡ false → any t (without s xs) ≡ false)
          → (a : Bool) → t x ≡ a → (b : Bool) → cond a true (any t xs) ≡ false → any t (cond b xs (x ∷ without s xs)) ≡ false
      by rest a so b none = grind (arith, nat_tests)

  pub none_last : (t : X → Bool) (xs : List X) (d : X) → any t xs ≡ false → t d ≡ false → any t (xs ++ d ∷ []) ≡ false
  none_last t [] d none is = ap (λ a. cond a true false) is
  none_last t (x ∷ xs) d none is = by (λ none. none_last t xs d none is) (t x) none
    where
      by : (any t xs ≡ false → any t (xs ++ d ∷ []) ≡ false) → (a : Bool) → cond a true (any t xs) ≡ false
          → cond a true (any t (xs ++ d ∷ [])) ≡ false
      by rest a none = grind (arith, nat_tests)

  pub none_as : (t s : X → Bool) → ((x : X) → t x ≡ false → s x ≡ false) → (xs : List X) → any t xs ≡ false → any s xs ≡ false
  none_as t s so [] none = refl
  none_as t s so (x ∷ xs) none = by (none_as t s so xs) (t x) refl none
    where
      by : (any t xs ≡ false → any s xs ≡ false) → (b : Bool) → t x ≡ b → cond b true (any t xs) ≡ false
          → cond (s x) true (any s xs) ≡ false
      by rest b is none = grind (arith, nat_tests)

  pub none_counted : (t : X → Bool) (xs : List X) → any t xs ≡ false → count_by t xs ≡ 0
  none_counted t [] none = refl
  none_counted t (x ∷ xs) none = by (none_counted t xs) (t x) refl none
    where
      by : (any t xs ≡ false → count_by t xs ≡ 0) → (b : Bool) → t x ≡ b → cond b true (any t xs) ≡ false → count_by t (x ∷ xs) ≡ 0
      by rest b is none = grind (arith, nat_tests)

  -- what holds of each
  abbrev pub Each : (X → Type 0) → List X → Type 0
  Each P [] = Unit {0}
  Each P (x ∷ xs) = P x × Each P xs

  pub each_last : (P : X → Type 0) (xs : List X) (d : X) → Each P xs → P d → Each P (xs ++ d ∷ [])
  each_last P [] d all it = (it, tt)
  each_last P (x ∷ xs) d all it = (all.0, each_last P xs d all.1 it)

  pub each_without : (P : X → Type 0) (s : X → Bool) (xs : List X) → Each P xs → Each P (without s xs)
  each_without P s [] all = tt
  each_without P s (x ∷ xs) all = by (s x) (each_without P s xs all.1)
    where
      by : (b : Bool) → Each P (without s xs) → Each P (cond b xs (x ∷ without s xs))
      by b rest = grind (arith, nat_tests)

  pub each_found : (P : X → Type 0) (s : X → Bool) (xs : List X) (d : X) → Each P xs → find s xs ≡ Some d → P d
  each_found P s [] d all is = absurd cc
  each_found P s (x ∷ xs) d all is = by (each_found P s xs d all.1) (s x) is
    where
      the_same : Some x ≡ Some d → x ≡ d
      the_same is = cc

      by : (find s xs ≡ Some d → P d) → (b : Bool) → cond b (Some x) (find s xs) ≡ Some d → P d
      by rest b is = grind (arith, nat_tests)

  pub each_as : (P Q : X → Type 0) → ((x : X) → P x → Q x) → (xs : List X) → Each P xs → Each Q xs
  each_as P Q so [] all = tt
  each_as P Q so (x ∷ xs) all = (so x all.0, each_as P Q so xs all.1)

  -- what stands at a number
  pub set_there : (xs : List X) (i : ℕ) (y : X) → is_some (slice_get xs i) ≡ true → slice_get (slice_set xs i y) i ≡ Some y
  set_there [] i y is = absurd cc
  set_there (x ∷ xs) zero y is = refl
  set_there (x ∷ xs) (suc i) y is = set_there xs i y is

  pub last_there : (xs : List X) (y : X) → slice_get (xs ++ y ∷ []) (length xs) ≡ Some y
  last_there [] y = refl
  last_there (x ∷ xs) y = last_there xs y

  -- what a function says of it
  abbrev pub at : {Y : Type 0} → (X → Y) → List X → ℕ → Option Y
  at f xs i = or (slice_get xs i) (λ x. Some (f x)) None

  pub at_set : {Y : Type 0} (f : X → Y) (xs : List X) (i : ℕ) (x y : X) (j : ℕ) → slice_get xs i ≡ Some x → f y ≡ f x
      → at f (slice_set xs i y) j ≡ at f xs j
  at_set f [] i x y j is same = refl
  at_set f (z ∷ zs) zero x y zero is same = ap Some (same ∙ ap f (the_same is))
    where
      the_same : Some z ≡ Some x → x ≡ z
      the_same is = cc
  at_set f (z ∷ zs) zero x y (suc j) is same = refl
  at_set f (z ∷ zs) (suc i) x y zero is same = refl
  at_set f (z ∷ zs) (suc i) x y (suc j) is same = at_set f zs i x y j is same

  pub at_more : {Y : Type 0} (f : X → Y) (xs : List X) (y : X) (j : ℕ) (z : Y) → at f xs j ≡ Some z → at f (xs ++ y ∷ []) j ≡ Some z
  at_more f [] y j z is = absurd cc
  at_more f (x ∷ xs) y zero z is = is
  at_more f (x ∷ xs) y (suc j) z is = at_more f xs y j z is

module _ {X Y : Type 0} (f : X → Y) where
  pub map_both : (xs ys : List X) → map f (xs ++ ys) ≡ map f xs ++ map f ys
  map_both [] ys = refl
  map_both (x ∷ xs) ys = ap (λ l. f x ∷ l) (map_both xs ys)
