-- One cell of a list of keys, where one is taken out.
use Rattle.std.proofs.Common.{◌≡◌, ◌≢◌, ℕ, true, false, eqb, List, ◌∷◌, arith}
use Rattle.std.proofs.lemmas.Bool.Decides.{nat_tests}
use Rattle.executor_parts.specs.Order.{without}

pub without_no : (f x : ℕ) (xs : List ℕ) → x ≢ f → without f (x ∷ xs) ≡ x ∷ without f xs
without_no f x xs ne = let e : eqb f x ≡ false = grind (arith, nat_tests) in rw (e, without)

pub without_yes : (f x : ℕ) (xs : List ℕ) → x ≡ f → without f (x ∷ xs) ≡ xs
without_yes f x xs eq = let e : eqb f x ≡ true = grind (arith, nat_tests) in rw (e, without)
