-- Lists in which one is put in the place of another.
use Rattle.std.proofs.Common.{◌≡◌, ℕ, zero, suc, ◌<◌, ◌==◌, false, List, [], ◌∷◌, ◌++◌, length, map, take, Some, slice_get, slice_set, refl}
use Rattle.std.proofs.Common.{ap, arith}
use Rattle.std.proofs.lemmas.Bool.Decides.{nat_tests}

module _ {A : Type 0} where
  pub set_same : (xs : List A) (i : ℕ) (x y : A) → slice_get xs i ≡ Some y → slice_get (slice_set xs i x) i ≡ Some x
  set_same [] i x y is = absurd cc
  set_same (z ∷ zs) zero x y is = refl
  set_same (z ∷ zs) (suc i) x y is = set_same zs i x y is

  pub set_other : (xs : List A) (i j : ℕ) (x : A) → (i == j) ≡ false → slice_get (slice_set xs i x) j ≡ slice_get xs j
  set_other [] i j x is = refl
  set_other (z ∷ zs) zero zero x is = absurd (grind (arith, nat_tests))
  set_other (z ∷ zs) zero (suc j) x is = refl
  set_other (z ∷ zs) (suc i) zero x is = refl
  set_other (z ∷ zs) (suc i) (suc j) x is = set_other zs i j x (suc_test i j is)
    where
      suc_test : (i j : ℕ) → (suc i == suc j) ≡ false → (i == j) ≡ false
      suc_test i j is = grind (arith, nat_tests)

  pub get_below : (xs : List A) (i : ℕ) → i < length xs → (x : A) × (slice_get xs i ≡ Some x)
  get_below [] i below = absurd (omega arith)
  get_below (x ∷ xs) zero below = (x, refl)
  get_below (x ∷ xs) (suc i) below = get_below xs i (omega arith)

  pub length_set : (xs : List A) (i : ℕ) (x : A) → length (slice_set xs i x) ≡ length xs
  length_set [] i x = refl
  length_set (z ∷ zs) zero x = refl
  length_set (z ∷ zs) (suc i) x = ap suc (length_set zs i x)

  pub got_below : (xs : List A) (i : ℕ) (x : A) → slice_get xs i ≡ Some x → i < length xs
  got_below [] i x is = absurd cc
  got_below (y ∷ ys) zero x is = omega arith
  got_below (y ∷ ys) (suc i) x is = let below = got_below ys i x is in omega (arith, below)

  pub take_all : (xs : List A) → take (length xs) xs ≡ xs
  take_all [] = refl
  take_all (x ∷ xs) = ap (λ ys. x ∷ ys) (take_all xs)

  pub take_twice : (n m : ℕ) (xs : List A) → (k : ℕ) × (take n (take m xs) ≡ take k xs)
  take_twice zero m xs = (0, refl)
  take_twice (suc n) zero xs = (0, refl)
  take_twice (suc n) (suc m) [] = (0, refl)
  take_twice (suc n) (suc m) (x ∷ xs) = let k = take_twice n m xs in (suc k.0, ap (λ ys. x ∷ ys) k.1)

  -- as many of the same list
  pub take_same : (n m : ℕ) (xs : List A) → length (take n xs) ≡ length (take m xs) → take n xs ≡ take m xs
  take_same zero zero xs is = refl
  take_same zero (suc m) [] is = refl
  take_same zero (suc m) (x ∷ xs) is = absurd (omega (arith, is))
  take_same (suc n) zero [] is = refl
  take_same (suc n) zero (x ∷ xs) is = absurd (omega (arith, is))
  take_same (suc n) (suc m) [] is = refl
  take_same (suc n) (suc m) (x ∷ xs) is = ap (λ ys. x ∷ ys) (take_same n m xs (omega (arith, is)))

  pub get_take : (n : ℕ) (xs : List A) (i : ℕ) (x : A) → slice_get (take n xs) i ≡ Some x → slice_get xs i ≡ Some x
  get_take zero xs i x is = absurd cc
  get_take (suc n) [] i x is = absurd cc
  get_take (suc n) (y ∷ ys) zero x is = is
  get_take (suc n) (y ∷ ys) (suc i) x is = get_take n ys i x is

module _ {A B : Type 0} (f : A → B) where
  pub map_append : (xs ys : List A) → map f (xs ++ ys) ≡ map f xs ++ map f ys
  map_append [] ys = refl
  map_append (x ∷ xs) ys = ap (λ zs. f x ∷ zs) (map_append xs ys)

  pub map_take : (n : ℕ) (xs : List A) → map f (take n xs) ≡ take n (map f xs)
  map_take zero xs = refl
  map_take (suc n) [] = refl
  map_take (suc n) (x ∷ xs) = ap (λ zs. f x ∷ zs) (map_take n xs)

  pub length_map : (xs : List A) → length (map f xs) ≡ length xs
  length_map [] = refl
  length_map (x ∷ xs) = ap suc (length_map xs)
