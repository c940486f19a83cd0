-- Words on lists and options, of one list and of that which a function makes of it.
use Rattle.std.proofs.Common.{◌≡◌, ℕ, zero, suc, ◌-◌, ◌≤◌, min, cond, Bool, true, false, List, [], ◌∷◌, ◌++◌, length, map, find}
use Rattle.std.proofs.Common.{Some, slice_set, refl, sym, ap, ◌∙◌, arith}
use Rattle.std.specs.Option.{option_map}
use Rattle.plain_scheduler.specs.Lists.{any, without}

module _ {A B : Type 0} (f : A → B) where
  pub map_append : (xs ys : List A) → map f (xs ++ ys) ≡ map f xs ++ map f ys
  map_append [] ys = refl
  map_append (x ∷ xs) ys = ap (λ zs. f x ∷ zs) (map_append xs ys)

  pub length_map : (xs : List A) → length (map f xs) ≡ length xs
  length_map [] = refl
  length_map (x ∷ xs) = ap suc (length_map xs)

  pub set_map : (xs : List A) (i : ℕ) (x : A) → map f (slice_set xs i x) ≡ slice_set (map f xs) i (f x)
  set_map [] i x = refl
  set_map (y ∷ ys) zero x = refl
  set_map (y ∷ ys) (suc i) x = ap (λ zs. f y ∷ zs) (set_map ys i x)

  module _ (test : A → Bool) (test_as : B → Bool) (is : (x : A) → test_as (f x) ≡ test x) where
    pub any_map : (xs : List A) → any test_as (map f xs) ≡ any test xs
    any_map [] = refl
    any_map (x ∷ xs) =
        ap (λ b. cond b true (any test_as (map f xs))) (is x) ∙ ap (λ b. cond (test x) true b) (any_map xs)

    pub find_map : (xs : List A) → find test_as (map f xs) ≡ option_map f (find test xs)
    find_map [] = refl
    find_map (x ∷ xs) =
        ap (λ b. cond b (Some (f x)) (find test_as (map f xs))) (is x)
        ∙ (ap (λ o. cond (test x) (Some (f x)) o) (find_map xs) ∙ by (test x))
      where
        by : (b : Bool) → cond b (Some (f x)) (option_map f (find test xs)) ≡ option_map f (cond b (Some x) (find test xs))
        by true = refl
        by false = refl

    pub without_map : (xs : List A) → map f (without test xs) ≡ without test_as (map f xs)
    without_map [] = refl
    without_map (x ∷ xs) =
        by (test x) (without_map xs) ∙ ap (λ b. cond b (map f xs) (f x ∷ without test_as (map f xs))) (sym (is x))
      where
        by : (b : Bool) → map f (without test xs) ≡ without test_as (map f xs)
            → map f (cond b xs (x ∷ without test xs)) ≡ cond b (map f xs) (f x ∷ without test_as (map f xs))
        by true rest = refl
        by false rest = ap (λ zs. f x ∷ zs) rest

module _ {A : Type 0} where
  pub length_set : (xs : List A) (i : ℕ) (x : A) → length (slice_set xs i x) ≡ length xs
  length_set [] i x = refl
  length_set (z ∷ zs) zero x = refl
  length_set (z ∷ zs) (suc i) x = ap suc (length_set zs i x)

  pub fewer_without : (test : A → Bool) (xs : List A) → length (without test xs) ≤ length xs
  fewer_without test [] = least 0
    where
      least : (n : ℕ) → n ≤ n
      least n = omega arith
  fewer_without test (x ∷ xs) = by (test x) (fewer_without test xs)
    where
      by : (b : Bool) → length (without test xs) ≤ length xs → length (cond b xs (x ∷ without test xs)) ≤ suc (length xs)
      by true fewer = up (length xs)
        where
          up : (n : ℕ) → n ≤ suc n
          up n = omega arith
      by false fewer = more (length (without test xs)) (length xs) fewer
        where
          more : (a b : ℕ) → a ≤ b → suc a ≤ suc b
          more a b below = omega (arith, below)

-- of so many the last is told
pub last_at : (tells n : ℕ) → n ≤ tells → min tells (n - 1) ≡ n - 1
last_at tells n enough = omega (arith, enough)

pub at_most : (a b c : ℕ) → a ≤ b → b ≤ c → a ≤ c
at_most a b c one two = omega (arith, one, two)
