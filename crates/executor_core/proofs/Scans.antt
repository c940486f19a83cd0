-- Scans of what the parties have still to do.
use Rattle.std.proofs.Common.{◌≡◌, ◌≢◌, ℕ, ◌+◌, ◌<◌, ◌≤◌, List, [], ◌∷◌, length, get_or}
use Rattle.std.proofs.Common.{drop, true, false, eqb, not, sym, ap, ◌∙◌}
use Rattle.std.proofs.Common.{⊎_elim, arith, add-one, drop-cons}
use Rattle.std.proofs.lemmas.Bool.Decides.{nat_tests}
use Rattle.std.proofs.lemmas.Grind.{common_steps}
use Rattle.executor_model.specs.declared.op.Op.{Op}
use Rattle.executor_model.specs.Weights.{same, weigh}
use Rattle.executor_model.proofs.Steps.Lists.{same_cases}

pub same_test : (t u : ℕ) → eqb t u ≡ not (eqb (same t u) 0)
same_test t u = ⊎_elim
    (λ (x : (same t u ≡ 1) × (eqb t u ≡ true) × (t ≡ u)). x.1 ∙ sym (ap (λ n. not (eqb n 0)) x.0))
    (λ (x : (same t u ≡ 0) × (eqb t u ≡ false) × (t ≢ u)). x.1 ∙ sym (ap (λ n. not (eqb n 0)) x.0))
    (same_cases t u)

drop_op : (xs : List Op) (i : ℕ) (d : Op) → i < length xs → drop i xs ≡ get_or xs i d ∷ drop (i + 1) xs
drop_op xs i d h = rw add-one (drop-cons xs i d h)

pub weigh-more :
    (v : Op → ℕ) (xs : List Op) (i : ℕ) (x : Op)
    → i < length xs → x ≡ get_or xs i x → not (eqb (v x) 0) ≡ false → weigh v xs ≡ weigh v (drop i xs)
    → weigh v xs ≡ weigh v (drop (i + 1) xs)
weigh-more v xs i x h e q w =
    let z : v x ≡ 0 = grind (arith, nat_tests) in
    w ∙ ap (weigh v) (drop_op xs i x h) ∙ ap (λ (y : Op). v y + weigh v (drop (i + 1) xs)) (sym e) ∙ omega arith

pub weigh-found :
    (v : Op → ℕ) (xs : List Op) (i : ℕ) (x : Op)
    → i < length xs → x ≡ get_or xs i x → not (eqb (v x) 0) ≡ true → weigh v xs ≡ weigh v (drop i xs) →
    false ≡ eqb (weigh v xs) 0
weigh-found v xs i x h e q w =
    let z : 1 ≤ v x = grind (arith, nat_tests) in
    let m : weigh v xs ≡ v x + weigh v (drop (i + 1) xs) = w ∙ ap (weigh v) (drop_op xs i x h)
    ∙ ap (λ (y : Op). v y + weigh v (drop (i + 1) xs)) (sym e) in
    grind (arith, nat_tests)

drop_all : (xs : List Op) (i : ℕ) → length xs ≤ i → drop i xs ≡ []
drop_all xs i h = grind (arith, common_steps)

pub weigh-ended : (v : Op → ℕ) (xs : List Op) (i : ℕ) → length xs ≤ i → weigh v xs ≡ weigh v (drop i xs) →
    true ≡ eqb (weigh v xs) 0
weigh-ended v xs i h w = let z : weigh v xs ≡ 0 = w ∙ ap (weigh v) (drop_all xs i h) in grind (arith, nat_tests)
