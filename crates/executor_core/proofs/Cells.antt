-- One cell of a list of numbers, where one is looked for or taken out.
use Rattle.std.proofs.Common.{◌≡◌, ◌≢◌, ℕ, true, false, eqb, List, [], ◌∷◌, length, refl, sym, ap, ◌∙◌, inl, inr, arith}
use Rattle.std.proofs.lemmas.Bool.{cases_eq, false≢true}
use Rattle.std.proofs.lemmas.Bool.Decides.{nat_tests}
use Rattle.executor_model.specs.World.{without, among}
use Rattle.executor_parts.specs.Places.{Entry}
use Rattle.executor_core.specs.Entered.{futures_of, present_of}

pub among_no : (f x : ℕ) (xs : List ℕ) → x ≢ f → among f (x ∷ xs) ≡ among f xs
among_no f x xs ne = let e : eqb f x ≡ false = grind (arith, nat_tests) in rw (e, among)

pub among_yes : (f x : ℕ) (xs : List ℕ) → x ≡ f → among f (x ∷ xs) ≡ true
among_yes f x xs eq = let e : eqb f x ≡ true = grind (arith, nat_tests) in rw (e, among)

pub without_no : (f x : ℕ) (xs : List ℕ) → x ≢ f → without f (x ∷ xs) ≡ x ∷ without f xs
without_no f x xs ne = let e : eqb f x ≡ false = grind (arith, nat_tests) in rw (e, without)

pub without_yes : (f x : ℕ) (xs : List ℕ) → x ≡ f → without f (x ∷ xs) ≡ xs
without_yes f x xs eq = let e : eqb f x ≡ true = grind (arith, nat_tests) in rw (e, without)

-- one that isn't there is not missed
pub without_none : (f : ℕ) (xs : List ℕ) → among f xs ≡ false → without f xs ≡ xs
without_none f [] absent = refl
without_none f (x ∷ xs) absent =
    elim (cases_eq x f) [
      | inl same ↦ absurd (false≢true (sym absent ∙ among_yes f x xs same))
      | inr differs ↦ without_no f x xs differs ∙ ap (λ (ys : List ℕ). x ∷ ys)
          (without_none f xs (sym (among_no f x xs differs) ∙ absent))
    ]

-- where no entry is there, no future is
pub none_present : {F : Type 0} (es : List (Entry F ℕ)) → futures_of es ≡ [] → present_of es ≡ []
none_present [] e = refl
none_present (x ∷ es) e = absurd (omega (arith, ap length e))
