-- Lists in which one is put in the place of another, and tests of numbers.
use Rattle.std.proofs.Common.{◌≡◌, ◌≢◌, ℕ, zero, suc, ◌<◌, ◌==◌, Bool, true, false, List, [], ◌∷◌, ◌++◌, length, map}
use Rattle.std.proofs.Common.{take, get_or, nat_lt, Option, Some, None, slice_get, slice_set, refl, sym, ap, arith}
use Rattle.std.proofs.lemmas.Bool.Decides.{nat_tests}

pub clash : {b : Bool} → b ≡ false → b ≡ true → ⊥
clash off so = absurd cc

pub apart_of : (n m : ℕ) → (n == m) ≡ false → n ≢ m
apart_of n m is = grind (arith, nat_tests)

pub same_of : (n m : ℕ) → (n == m) ≡ true → n ≡ m
same_of n m is = grind (arith, nat_tests)

pub equal : (n m : ℕ) → n ≡ m → (n == m) ≡ true
equal n m is = grind (arith, nat_tests)

pub turned : (n m : ℕ) → (n == m) ≡ false → (m == n) ≡ false
turned n m is = grind (arith, nat_tests)

module _ {A : Type 0} where
  pub set_same : (xs : List A) (i : ℕ) (x y : A) → slice_get xs i ≡ Some y → slice_get (slice_set xs i x) i ≡ Some x
  set_same [] i x y is = absurd cc
  set_same (z ∷ zs) zero x y is = refl
  set_same (z ∷ zs) (suc i) x y is = set_same zs i x y is

  pub set_other : (xs : List A) (i j : ℕ) (x : A) → (i == j) ≡ false → slice_get (slice_set xs i x) j ≡ slice_get xs j
  set_other [] i j x is = refl
  set_other (z ∷ zs) zero zero x is = absurd (apart_of zero zero is refl)
  set_other (z ∷ zs) zero (suc j) x is = refl
  set_other (z ∷ zs) (suc i) zero x is = refl
  set_other (z ∷ zs) (suc i) (suc j) x is = set_other zs i j x (suc_test i j is)
    where
      suc_test : (i j : ℕ) → (suc i == suc j) ≡ false → (i == j) ≡ false
      suc_test i j is = grind (arith, nat_tests)

  pub set_twice : (xs : List A) (i : ℕ) (x y : A) → slice_set (slice_set xs i x) i y ≡ slice_set xs i y
  set_twice [] i x y = refl
  set_twice (z ∷ zs) zero x y = refl
  set_twice (z ∷ zs) (suc i) x y = ap (λ ys. z ∷ ys) (set_twice zs i x y)

  pub set_apart : (xs : List A) (i j : ℕ) (x y : A) → i ≢ j
      → slice_set (slice_set xs i x) j y ≡ slice_set (slice_set xs j y) i x
  set_apart [] i j x y is = refl
  set_apart (z ∷ zs) zero zero x y is = absurd (is refl)
  set_apart (z ∷ zs) zero (suc j) x y is = refl
  set_apart (z ∷ zs) (suc i) zero x y is = refl
  set_apart (z ∷ zs) (suc i) (suc j) x y is = ap (λ ys. z ∷ ys) (set_apart zs i j x y (λ same. is (ap suc same)))

  pub set_own : (xs : List A) (i : ℕ) (x : A) → slice_get xs i ≡ Some x → slice_set xs i x ≡ xs
  set_own [] i x is = refl
  set_own (z ∷ zs) zero x is = ap (λ (o : Option A). or_else o) (sym is)
    where
      or_else : Option A → List A
      or_else None = z ∷ zs
      or_else (Some y) = y ∷ zs
  set_own (z ∷ zs) (suc i) x is = ap (λ ys. z ∷ ys) (set_own zs i x is)

  pub get_below : (xs : List A) (i : ℕ) → i < length xs → (x : A) × (slice_get xs i ≡ Some x)
  get_below [] i below = absurd (omega arith)
  get_below (x ∷ xs) zero below = (x, refl)
  get_below (x ∷ xs) (suc i) below = get_below xs i (omega arith)

  pub length_set : (xs : List A) (i : ℕ) (x : A) → length (slice_set xs i x) ≡ length xs
  length_set [] i x = refl
  length_set (z ∷ zs) zero x = refl
  length_set (z ∷ zs) (suc i) x = ap suc (length_set zs i x)

module _ {A : Type 0} where
  -- two lists that are one have the same first and the same rest
  pub cons_is : (x y : A) (xs ys : List A) → x ∷ xs ≡ y ∷ ys → (x ≡ y) × (xs ≡ ys)
  cons_is x y xs ys is = (ap (λ zs. head zs) is, ap (λ zs. tail zs) is)
    where
      head : List A → A
      head [] = x
      head (z ∷ zs) = z

      tail : List A → List A
      tail [] = []
      tail (z ∷ zs) = zs

module _ {A B : Type 0} (f : A → B) where
  pub map_append : (xs ys : List A) → map f (xs ++ ys) ≡ map f xs ++ map f ys
  map_append [] ys = refl
  map_append (x ∷ xs) ys = ap (λ zs. f x ∷ zs) (map_append xs ys)

  pub map_take : (n : ℕ) (xs : List A) → map f (take n xs) ≡ take n (map f xs)
  map_take zero xs = refl
  map_take (suc n) [] = refl
  map_take (suc n) (x ∷ xs) = ap (λ zs. f x ∷ zs) (map_take n xs)

  pub length_map : (xs : List A) → length (map f xs) ≡ length xs
  length_map [] = refl
  length_map (x ∷ xs) = ap suc (length_map xs)

  pub get_map : (xs : List A) (i : ℕ) (x : A) → slice_get xs i ≡ Some x → slice_get (map f xs) i ≡ Some (f x)
  get_map [] i x is = absurd cc
  get_map (y ∷ ys) zero x is = ap (λ (o : Option A). by o) is
    where
      by : Option A → Option B
      by None = None
      by (Some z) = Some (f z)
  get_map (y ∷ ys) (suc i) x is = get_map ys i x is

-- one that comes last
module _ {A : Type 0} where
  pub get_before : (xs : List A) (x : A) (i : ℕ) → i < length xs → slice_get (xs ++ x ∷ []) i ≡ slice_get xs i
  get_before [] x i below = absurd (omega arith)
  get_before (y ∷ ys) x zero below = refl
  get_before (y ∷ ys) x (suc i) below = get_before ys x i (omega arith)

  pub get_last : (xs : List A) (x : A) → slice_get (xs ++ x ∷ []) (length xs) ≡ Some x
  get_last [] x = refl
  get_last (y ∷ ys) x = get_last ys x

  pub or_before : (xs : List A) (x d : A) (i : ℕ) → i < length xs → get_or (xs ++ x ∷ []) i d ≡ get_or xs i d
  or_before [] x d i below = absurd (omega arith)
  or_before (y ∷ ys) x d zero below = refl
  or_before (y ∷ ys) x d (suc i) below = or_before ys x d i (omega arith)

  pub or_last : (xs : List A) (x d : A) → get_or (xs ++ x ∷ []) (length xs) d ≡ x
  or_last [] x d = refl
  or_last (y ∷ ys) x d = or_last ys x d

  pub length_last : (xs : List A) (x : A) → length (xs ++ x ∷ []) ≡ suc (length xs)
  length_last [] x = refl
  length_last (y ∷ ys) x = ap suc (length_last ys x)

-- before a place, at it, or past it
pub data Where (n i : ℕ) : Type 0 where
  Before : i < n → Where n i
  Last : n ≡ i → Where n i
  Past : n < i → Where n i

below_of : (i n : ℕ) → nat_lt i n ≡ true → i < n
below_of i n is = grind (arith, nat_tests)

past_of : (i n : ℕ) → nat_lt i n ≡ false → n ≢ i → n < i
past_of i n above apart = grind (arith, nat_tests)

pub where_is : (n i : ℕ) → Where n i
where_is n i = by (nat_lt i n) refl (n == i) refl
  where
    by : (b : Bool) → nat_lt i n ≡ b → (c : Bool) → (n == i) ≡ c → Where n i
    by true below c is = Before (below_of i n below)
    by false above true is = Last (same_of n i is)
    by false above false is = Past (past_of i n above (apart_of n i is))
