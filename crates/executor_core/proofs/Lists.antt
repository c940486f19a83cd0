-- Lists of which one is read, replaced or taken out.
use Rattle.std.proofs.Common.{◌≡◌, ℕ, zero, suc, ◌+◌, ◌<◌, ◌≤◌, List, [], ◌∷◌, ◌++◌, length, map, get_or, set, take, drop}
use Rattle.std.proofs.Common.{Bool, true, false, not, ◌||◌, cond, eqb, refl, sym, ap, ◌∙◌, arith}
use Rattle.std.specs.Prelude.{remove, IfNone, IfSome, None, Option, Some}
use Rattle.std.specs.List.{position_or_len, list_any}
use Rattle.executor_model.specs.World.{without}
use Rattle.executor_core.specs.declared.runs.run.Run.{Run as RunOfCode}
use Rattle.executor_core.specs.Runs.{as_run}

module _ {A B : Type 0} (f : A → B) where
  -- one that was read in the list
  pub read : (xs : List A) (i : ℕ) (x : A) (d : B) → i < length xs → x ≡ get_or xs i x → get_or (map f xs) i d ≡ f x
  read [] i x d h e = absurd (omega arith)
  read (y ∷ xs) zero x d h e = ap f (sym e)
  read (y ∷ xs) (suc i) x d h e = read xs i x d (omega arith) e

  pub unread : (xs : List A) (i : ℕ) (d : B) → length xs ≤ i → get_or (map f xs) i d ≡ d
  unread [] i d h = refl
  unread (y ∷ xs) zero d h = absurd (omega arith)
  unread (y ∷ xs) (suc i) d h = unread xs i d (omega arith)

  -- behind the end nothing is written
  pub unwritten : (xs : List A) (i : ℕ) (y : B) → length xs ≤ i → set (map f xs) i y ≡ map f xs
  unwritten [] i y h = refl
  unwritten (x ∷ xs) zero y h = absurd (omega arith)
  unwritten (x ∷ xs) (suc i) y h = ap (λ (l : List B). f x ∷ l) (unwritten xs i y (omega arith))

  -- one is replaced by one that stands for z
  pub written : (xs : List A) (i : ℕ) (y : A) (z : B) → f y ≡ z → map f (set xs i y) ≡ set (map f xs) i z
  written [] i y z e = refl
  written (x ∷ xs) zero y z e = ap (λ (b : B). b ∷ map f xs) e
  written (x ∷ xs) (suc i) y z e = ap (λ (l : List B). f x ∷ l) (written xs i y z e)

  -- one is replaced by one that stands for the same
  pub same : (xs : List A) (i : ℕ) (x y : A) → x ≡ get_or xs i x → f y ≡ f x → map f (set xs i y) ≡ map f xs
  same [] i x y e q = refl
  same (w ∷ xs) zero x y e q = ap (λ (b : B). b ∷ map f xs) (q ∙ ap f e)
  same (w ∷ xs) (suc i) x y e q = ap (λ (l : List B). f w ∷ l) (same xs i x y e q)

module _ {B : Type 0} where
  -- what was written is read
  pub read-written : (ys : List B) (i : ℕ) (y d : B) → i < length ys → get_or (set ys i y) i d ≡ y
  read-written [] i y d h = absurd (omega arith)
  read-written (x ∷ ys) zero y d h = refl
  read-written (x ∷ ys) (suc i) y d h = read-written ys i y d (omega arith)

  pub length-mapped : {A : Type 0} (f : A → B) (xs : List A) → length (map f xs) ≡ length xs
  length-mapped f [] = refl
  length-mapped f (x ∷ xs) = ap suc (length-mapped f xs)

-- what is said where a value is there, or where none is
pub where-some : {A : Type 0} (o : Option A) (P Q : A → Type 0) → ((a : A) → P a → Q a) → IfSome o P → IfSome o Q
where-some None P Q h p = p
where-some (Some a) P Q h p = h a p

pub where-none : {A : Type 0} (o : Option A) (P Q : Type 0) → (P → Q) → IfNone o P → IfNone o Q
where-none None P Q h p = h p
where-none (Some a) P Q h p = p

-- taking out the first of a number

taken-out : (r x n : ℕ) (xs : List ℕ) (b : Bool) → take n xs ++ drop (suc n) xs ≡ without r xs
    → remove (x ∷ xs) (cond (not b) (1 + n) 0) ≡ elim b [ true ↦ xs | false ↦ x ∷ without r xs ]
taken-out r x n xs true h = refl
taken-out r x n xs false h =
    let e : 1 + n ≡ suc n = omega arith in rw e (ap (λ (l : List ℕ). x ∷ l) h)

pub removed : (r : ℕ) (xs : List ℕ) → remove xs (position_or_len (λ x. eqb r x) xs) ≡ without r xs
removed r [] = refl
removed r (x ∷ xs) = taken-out r x (position_or_len (λ y. eqb r y) xs) xs (eqb r x) (removed r xs)

pub any_mapped : (xs : List RunOfCode) →
    list_any (λ x. not x.dropped) (map as_run xs) ≡ list_any (λ x. not x.dropped) xs
any_mapped [] = refl
any_mapped (x ∷ xs) = ap (λ b. not x.dropped || b) (any_mapped xs)
