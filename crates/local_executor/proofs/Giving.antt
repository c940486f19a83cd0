-- Calls of an iterator's `next`, one after the other.
use Rattle.std.proofs.Common.{ℕ, ◌+◌, List, [], ◌∷◌, ◌++◌, refl, sym, subst, arith, length-append}
use Rattle.std.specs.Prelude.{Option, Some}
use Rattle.std.specs.Iterator.{Yields}
use Rattle.local_executor.specs.Spawning.{HasGiven}

module _ {F S : Type 0} (steps : S → Option F → S → Type 0) where
  -- one call more
  pub Yields-one_more : (s : S) (xs : List F) (t : S) (x : F) (u : S) → Yields steps s xs t → steps t (Some x) u
      → Yields steps s (xs ++ x ∷ []) u
  Yields-one_more s [] t x u given step = (u, subst (λ k. steps k (Some x) u) (sym given) step, refl)
  Yields-one_more s (y ∷ ys) t x u given step = (given.0, given.1, Yields-one_more given.0 ys t x u given.2 step)

  pub HasGiven-one_more : (s t u : S) (x : F) (m n : ℕ) → HasGiven steps s t m n → steps t (Some x) u → HasGiven steps s u m (n + 1)
  HasGiven-one_more s t u x m n h step =
      (h.0 ++ x ∷ [], Yields-one_more s h.0 t x u h.1 step, omega (arith, h.2, length-append h.0 (x ∷ [])))
