-- The place of a number, and the list without it.
use Rattle.std.proofs.Common.{◌≡◌, ℕ, zero, suc, ◌≤◌, List, [], ◌∷◌, ◌++◌, length, take, drop}
use Rattle.std.proofs.Common.{Bool, true, false, cond, eqb, ltb, refl, sym, ap, ◌∙◌, arith}
use Rattle.std.specs.Prelude.{position, remove, None, Some}
use Rattle.std.specs.List.{position_or_len}
use Rattle.std.proofs.lemmas.Bool.Decides.{nat_tests}
use Rattle.executor_model.specs.World.{without}
use Rattle.executor_core.proofs.Lists.{removed}

at-is : (b : Bool) (n at : ℕ) → cond b (Some n) None ≡ Some at → n ≡ at
at-is true n at e = cc
at-is false n at e = cc

pub found-removed : (r : ℕ) (xs : List ℕ) (at : ℕ) → position (λ x. eqb r x) xs ≡ Some at → remove xs at ≡ without r xs
found-removed r xs at e =
    let n = position_or_len (λ x. eqb r x) xs in
    ap (remove xs) (sym (at-is (ltb n (length xs)) n at e)) ∙ removed r xs

past : (xs : List ℕ) (n : ℕ) → length xs ≤ n → take n xs ++ drop (suc n) xs ≡ xs
past [] zero h = refl
past [] (suc n) h = refl
past (x ∷ xs) zero h = absurd (omega arith)
past (x ∷ xs) (suc n) h = ap (λ (l : List ℕ). x ∷ l) (past xs n (omega arith))

none-is : (b : Bool) (n : ℕ) → cond b (Some n) None ≡ None → b ≡ false
none-is true n e = cc
none-is false n e = refl

pub absent-stays : (r : ℕ) (xs : List ℕ) → position (λ x. eqb r x) xs ≡ None → xs ≡ without r xs
absent-stays r xs e =
    let n = position_or_len (λ x. eqb r x) xs in
    let b : ltb n (length xs) ≡ false = none-is (ltb n (length xs)) n e in
    sym (past xs n (grind (arith, nat_tests))) ∙ removed r xs
