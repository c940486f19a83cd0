-- Masks and shifts in place of quotients: the mark m is two to the power k.
use Rattle.std.proofs.Common.{◌≡◌, ℕ, zero, suc, ◌+◌, ◌-◌, ◌*◌, ◌/◌, ◌%◌, ◌<◌, ◌≤◌, ◌==◌, ◌^◌, not, bit_and, sym, ap, ◌∙◌, mod-lt, mul_comm}
use Rattle.std.proofs.Common.{div-add-mod', zero-mul, lt_of_not-le, eq-eqb, ne_eqb, arith}
use Rattle.std.proofs.Math.Nat.{div-div-eq-div-mul, div-le_self, mul-le-mul_left, mul-le-mul_right, pow-suc}
use Rattle.std.proofs.Math.Pow.{pow-lt}
use Rattle.std.proofs.lemmas.Nat.{and_mask}
use Rattle.std.proofs.lemmas.Nat.Bits.{and_pow}
use mathlib.Core.Logic.{dite}
use native.Mathlib.Decide.{dec_le}
use Rattle.queue_steps.specs.Bounded.{IsShape, is_marked}

-- a lap's power is below the number of bits in a word
pub bits_few : (n m k : ℕ) → IsShape n m → m ≡ 2 ^ k → k + 1 < 64
bits_few n m k s power =
    let few : m < 2305843009213693952 = s.few in
    dite (dec_le 62 k)
    (λ far. let low : 2 ^ 61 < 2 ^ k = pow-lt {i = 61} {j = k} (omega arith) in absurd (omega arith))
    (λ near. let less : k < 62 = lt_of_not-le near in omega arith)

pub index_masks : (m w k : ℕ) → m ≡ 2 ^ k → bit_and w (m - 1) ≡ w % m
index_masks m w k power = ap (λ (z : ℕ). bit_and w (z - 1)) power ∙ and_mask w k ∙ ap (λ (z : ℕ). w % z) (sym power)

-- the shift by a lap's power counts the laps
pub laps_shift : (m w k : ℕ) → m ≡ 2 ^ k → w / 2 ^ (k + 1) ≡ w / (2 * m)
laps_shift m w k power =
    let next : k + 1 ≡ suc k = omega arith in
    let twice : 2 ^ (k + 1) ≡ 2 * m =
    ap (λ (z : ℕ). 2 ^ z) next ∙ pow-suc 2 k ∙ ap (λ (z : ℕ). z * 2) (sym power) ∙ mul_comm m 2 in
    ap (λ (z : ℕ). w / z) twice

-- within a lap two counts differ by their indexes
pub counts_in_a_lap : (n m t h k : ℕ) → m ≡ 2 ^ k → t / 2 ^ (k + 1) ≡ h / 2 ^ (k + 1)
    → t % m - h % m ≡ (t / (2 * m) * n + t % m) - (h / (2 * m) * n + h % m)
counts_in_a_lap n m t h k power same =
    let laps : t / (2 * m) ≡ h / (2 * m) = sym (laps_shift m t k power) ∙ same ∙ laps_shift m h k power in
    let wide : t / (2 * m) * n ≡ h / (2 * m) * n = ap (λ (z : ℕ). z * n) laps in
    omega arith

-- no count exceeds its word
pub count_fits : (n m w : ℕ) → IsShape n m → w / (2 * m) * n + w % m ≤ w
count_fits n m w s =
    let a : ℕ = w / (2 * m) in let b : ℕ = w / m in
    let half : b / 2 ≡ a = div-div-eq-div-mul w m 2 ∙ ap (λ (z : ℕ). w / z) (mul_comm m 2) in
    let below : b / 2 ≤ b = div-le_self b 2 in
    let above : n < m = s.above in
    let wide : a * n ≤ a * m = mul-le-mul_left a (omega arith) in
    let more : a * m ≤ b * m = mul-le-mul_right m (omega arith) in
    let whole : b * m + w % m ≡ w = div-add-mod' w m in
    omega arith

-- the mark of a word
and_mark : (m w k : ℕ) → m ≡ 2 ^ k → bit_and w m ≡ w / m % 2 * m
and_mark m w k power = ap (bit_and w) power ∙ and_pow w k ∙ ap (λ (z : ℕ). w / z % 2 * z) (sym power)

pub mark_masks : (n m w k : ℕ) → IsShape n m → m ≡ 2 ^ k → not (bit_and w m == 0) ≡ is_marked m w
unfolding is_marked
mark_masks n m w k s power = by_bit (w / m % 2) (mod-lt (w / m) (omega arith)) (and_mark m w k power)
  where
    above : n < m
    above = s.above

    by_bit : (b : ℕ) → b < 2 → bit_and w m ≡ b * m → not (bit_and w m == 0) ≡ (b == 1)
    by_bit zero small is = ap not (eq-eqb (bit_and w m) 0 (is ∙ zero-mul m))
    by_bit (suc zero) small is = ap not (ne_eqb (bit_and w m) 0 (λ none. let far = above in omega arith))
    by_bit (suc (suc b)) small is = absurd (omega arith)
