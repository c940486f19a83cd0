-- A run steals no more than there are, and no more than it has places for.
use Rattle.std.proofs.Common.{◌≡◌, ℕ, zero, suc, ◌+◌, ◌/◌, ◌%◌, ◌<◌, ◌≤◌, min, nat_lt, Bool, true, false, refl, arith}
use Rattle.std.specs.Int.{div_ceil}
use Rattle.std.proofs.lemmas.Bool.Decides.{nat_tests}
use Rattle.solo.specs.Cells.{choose}
use Rattle.solo.specs.Steals as steals

half_below : (n : ℕ) → div_ceil n 2 ≤ n
half_below n = by (n / 2) (n % 2) (omega arith) (omega arith)
  where
    by : (q r : ℕ) → r < 2 → n ≡ q + q + r → q + min 1 r ≤ n
    by q zero few is = omega (arith, is)
    by q (suc zero) few is = omega (arith, is)
    by q (suc (suc r)) few is = absurd (omega (arith, few))

pub share_most : (n free : ℕ) → (steals.share n free ≤ n) × (steals.share n free ≤ free)
share_most n free = by (nat_lt (div_ceil n 2) free) refl (half_below n)
  where
    less : (a b : ℕ) → nat_lt a b ≡ true → a ≤ b
    less a b is = grind (arith, nat_tests)

    more : (a b : ℕ) → nat_lt a b ≡ false → b ≤ a
    more a b is = grind (arith, nat_tests)

    by : (b : Bool) → nat_lt (div_ceil n 2) free ≡ b → div_ceil n 2 ≤ n
        → (choose b (div_ceil n 2) free ≤ n) × (choose b (div_ceil n 2) free ≤ free)
    by true is half = (half, less (div_ceil n 2) free is)
    by false is half = let below = more (div_ceil n 2) free is in (omega (arith, below, half), omega arith)
