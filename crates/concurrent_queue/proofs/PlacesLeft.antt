-- The items that are left while one place after another is looked at.
use Rattle.std.proofs.Common.{◌≡◌, ◌≢◌, ℕ, zero, suc, ◌+◌, ◌-◌, ◌<◌, ◌==◌, if◌then◌else◌, Bool, true, false, List, [], ◌∷◌, ◌++◌, sym, refl}
use Rattle.std.proofs.Common.{ap, ◌∙◌, eq-eqb, arith}
use Rattle.std.specs.Prelude.{slice_index_or, Option, None, option_to_list}
use Rattle.std.proofs.lemmas.Bool.Decides.{nat_tests}
use mathlib.Core.Option.{some, some-injective, some-ne-none}
use lib.ListN.{get_elem?}
use Rattle.concurrent_queue.specs.Places.{items_from}

read_there : {A : Type 0} (xs : List A) (i : ℕ) (x d : A) → get_elem? xs i ≡ some x → slice_index_or xs i d ≡ x
read_there [] i x d e = absurd (some-ne-none x (sym e))
read_there (y ∷ xs) zero x d e = some-injective y x e
read_there (y ∷ xs) (suc i) x d e = read_there xs i x d e

pub next_at_end : (at n next : ℕ) → at + 1 ≡ n → next ≡ 0 → next ≡ (if at + 1 == n then 0 else at + 1)
next_at_end at n next last is = is ∙ sym (ap (λ (b : Bool). if b then 0 else at + 1) (eq-eqb (at + 1) n last))

pub next_within : (at n next : ℕ) → at + 1 ≢ n → next ≡ at + 1 → next ≡ (if at + 1 == n then 0 else at + 1)
next_within at n next more is = by (at + 1 == n) refl
  where
    by : (b : Bool) → (at + 1 == n) ≡ b → next ≡ (if b then 0 else at + 1)
    by true e = absurd (more (let same : at + 1 ≡ n = grind (arith, nat_tests) in same))
    by false e = is

pub looked_at : {T : Type 0} (places : List (Option T)) (n at left next : ℕ) (x : Option T) → 0 < left → get_elem? places at ≡ some x
    → next ≡ (if at + 1 == n then 0 else at + 1) → items_from places n at left ≡ option_to_list x ++ items_from places n next (left - 1)
looked_at places n at zero next x more there is = absurd (omega arith)
looked_at places n at (suc left) next x more there is =
    let one : left ≡ suc left - 1 = omega arith in let here = read_there places at x None there in
    λ i. option_to_list (here i) ++ items_from places n (sym is i) (one i)
