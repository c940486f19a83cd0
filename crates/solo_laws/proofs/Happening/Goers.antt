-- How many runs aren't over: one more with each new one, and one fewer as one goes.
use Rattle.std.proofs.Common.{◌≡◌, ℕ, zero, suc, ◌≤◌, if◌then◌else◌, Bool, true, false, List, [], ◌∷◌, ◌++◌, Some, slice_get, slice_set}
use Rattle.std.proofs.Common.{refl, sym, ap, ◌∙◌, subst, arith}
use Rattle.plain_scheduler.specs.State.{Running}

abbrev pub goers : List Running → ℕ
goers [] = 0
goers (run ∷ runs) = if run.is_over then goers runs else suc (goers runs)

some_is : (a b : Running) → Some a ≡ Some b → a ≡ b
some_is a b is = cc

-- one that is over stays so
pub set_goers : (runs : List Running) (r : ℕ) (run new : Running) → slice_get runs r ≡ Some run
    → (run.is_over ≡ true → new.is_over ≡ true) → goers (slice_set runs r new) ≤ goers runs
set_goers [] r run new is stays = absurd cc
set_goers (x ∷ xs) zero run new is stays =
    by x.is_over new.is_over (λ over. stays (ap (λ (run : Running). run.is_over) (sym (some_is x run is)) ∙ over))
  where
    by : (a b : Bool) → (a ≡ true → b ≡ true) → (if b then goers xs else suc (goers xs)) ≤ (if a then goers xs else suc (goers xs))
    by true true so = omega arith
    by false true so = omega arith
    by false false so = omega arith
    by true false so = absurd (clash (so refl))
      where
        clash : false ≡ true → ⊥
        clash both = absurd cc
set_goers (x ∷ xs) (suc r) run new is stays = by x.is_over (set_goers xs r run new is stays)
  where
    by : (a : Bool) → goers (slice_set xs r new) ≤ goers xs
        → (if a then goers (slice_set xs r new) else suc (goers (slice_set xs r new))) ≤ (if a then goers xs else suc (goers xs))
    by true less = less
    by false less = omega (arith, less)

-- and one that goes is one fewer
pub over_goers : (runs : List Running) (r : ℕ) (run new : Running) → slice_get runs r ≡ Some run → run.is_over ≡ false
    → new.is_over ≡ true → suc (goers (slice_set runs r new)) ≤ goers runs
over_goers [] r run new is goes over = absurd cc
over_goers (x ∷ xs) zero run new is goes over =
    by x.is_over new.is_over (ap (λ (run : Running). run.is_over) (some_is x run is) ∙ goes) over
  where
    by : (a b : Bool) → a ≡ false → b ≡ true
        → suc (if b then goers xs else suc (goers xs)) ≤ (if a then goers xs else suc (goers xs))
    by false true one two = omega arith
    by true b one two = absurd cc
    by false false one two = absurd cc
over_goers (x ∷ xs) (suc r) run new is goes over = by x.is_over (over_goers xs r run new is goes over)
  where
    by : (a : Bool) → suc (goers (slice_set xs r new)) ≤ goers xs
        → suc (if a then goers (slice_set xs r new) else suc (goers (slice_set xs r new))) ≤ (if a then goers xs else suc (goers xs))
    by true less = less
    by false less = omega (arith, less)

pub one_goer : (runs : List Running) (new : Running) → goers (runs ++ new ∷ []) ≤ suc (goers runs)
one_goer [] new = by new.is_over
  where
    by : (b : Bool) → (if b then 0 else 1) ≤ 1
    by true = omega arith
    by false = omega arith
one_goer (x ∷ xs) new = by x.is_over (one_goer xs new)
  where
    by : (b : Bool) → goers (xs ++ new ∷ []) ≤ suc (goers xs)
        → (if b then goers (xs ++ new ∷ []) else suc (goers (xs ++ new ∷ []))) ≤ suc (if b then goers xs else suc (goers xs))
    by true less = less
    by false less = omega (arith, less)

pub same_goers : (a b : List Running) → a ≡ b → goers a ≤ goers b
same_goers a b same = subst (λ runs. goers a ≤ goers runs) same (omega arith)
