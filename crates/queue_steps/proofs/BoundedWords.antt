-- What the words of a ring tell of the counts, and the counts of the words. n is the number of places, m the mark.
use Rattle.std.proofs.Common.{◌≡◌, ℕ, suc, ◌+◌, ◌-◌, ◌*◌, ◌/◌, ◌%◌, ◌<◌, ◌≤◌, if◌then◌else◌, ◌==◌, sym, refl, ap, ap₂, ◌∙◌, subst, mod-lt}
use Rattle.std.proofs.Common.{suc-mul, zero-mul, div-add-mod', lt_of_not-le, lt-ltb, le-ltb, arith}
use Rattle.std.proofs.Math.Nat.{add-mul, mul_assoc, mul-le-mul_left}
use Rattle.std.proofs.Math.Arith.{digits_div, digits_mod}
use mathlib.Core.Logic.{dite}
use native.Mathlib.Decide.{dec_le}
use Rattle.queue_steps.specs.ClosableQueue.{most_accepted}
use Rattle.queue_steps.specs.Bounded.{IsShape, IsPlaceWord, word_at, count_at, next_at, is_marked}

-- a tail or head of a ring that has accepted no more than it may is well below the largest number
pub word_fits : (n m w : ℕ) → IsShape n m → count_at n m w ≤ most_accepted → w + 2 * m < 18446744073709551616
unfolding count_at
word_fits n m w s few =
    let a : ℕ = w / (2 * m) in
    let whole : a * (2 * m) + w % (2 * m) ≡ w = div-add-mod' w (2 * m) in
    let lap : w % (2 * m) < 2 * m = mod-lt w (omega (arith, s.some, s.above)) in
    let laps : a * (2 * m) ≤ a * (4 * n) = mul-le-mul_left a (omega (arith, s.near)) in
    let four : a * (4 * n) ≡ 4 * (a * n) = grind arith in
    let sum : a * n + w % m ≤ most_accepted = few in
    let small : m < 2305843009213693952 = s.few in
    omega arith

pub place_fits : (n m w : ℕ) → IsShape n m → IsPlaceWord n m w → w + 2 * m < 18446744073709551616
place_fits n m w s p = word_fits n m w s (let c = p.count in omega arith)

parts : (n m p : ℕ) → word_at n m p ≡ p / n * (2 * m) + p % n
unfolding word_at
parts n m p = refl

module _ (n m : ℕ) (s : IsShape n m) where
  word_of : (p a r : ℕ) → r < n → p ≡ a * n + r → word_at n m p ≡ a * (2 * m) + r
  word_of p a r near is =
      ap (word_at n m) is ∙ parts n m (a * n + r)
      ∙ ap₂ (λ (x y : ℕ). x * (2 * m) + y) (digits_div a near) (digits_mod a near)

  index_below : (p : ℕ) → p % n < n
  index_below p = mod-lt p s.some

  -- a word with its mark or not, in twos of the mark
  halves : (p shut : ℕ) → word_at n m p + shut * m ≡ (p / n * 2 + shut) * m + p % n
  halves p shut =
      let a : ℕ = p / n in
      let twice : a * (2 * m) ≡ a * 2 * m = sym (mul_assoc a 2 m) in
      let sum : (a * 2 + shut) * m ≡ a * 2 * m + shut * m = add-mul (a * 2) shut m in
      omega (arith, parts n m p)

  pub index_of : (p shut : ℕ) → (word_at n m p + shut * m) % m ≡ p % n
  index_of p shut =
      let near : p % n < n = index_below p in
      let above : n < m = s.above in
      ap (λ (x : ℕ). x % m) (halves p shut) ∙ digits_mod (p / n * 2 + shut) {m = m} {r = p % n} (omega arith)

  mark_of : (p shut : ℕ) → shut ≤ 1 → (word_at n m p + shut * m) / m % 2 ≡ shut
  mark_of p shut once =
      let near : p % n < n = index_below p in
      let above : n < m = s.above in
      ap (λ (x : ℕ). x / m % 2) (halves p shut)
      ∙ ap (λ (x : ℕ). x % 2) (digits_div (p / n * 2 + shut) {m = m} {r = p % n} (omega arith))
      ∙ digits_mod (p / n) {m = 2} {r = shut} (omega arith)

  pub marked_by : (p shut : ℕ) → shut ≤ 1 → is_marked m (word_at n m p + shut * m) ≡ (shut == 1)
  unfolding is_marked
  marked_by p shut once = ap (λ (x : ℕ). x == 1) (mark_of p shut once)

  pub count_of : (p shut : ℕ) → shut ≤ 1 → count_at n m (word_at n m p + shut * m) ≡ p
  unfolding count_at
  count_of p shut once =
      let near : p % n < n = index_below p in
      let above : n < m = s.above in
      let w : ℕ = word_at n m p + shut * m in
      let at_most : shut * m ≤ 1 * m = Rattle.std.proofs.Math.Nat.mul-le-mul_right m once in
      let whole : w ≡ p / n * (2 * m) + (p % n + shut * m) = omega (arith, parts n m p) in
      let laps : w / (2 * m) ≡ p / n =
      ap (λ (x : ℕ). x / (2 * m)) whole ∙ digits_div (p / n) {m = 2 * m} {r = p % n + shut * m} (omega arith) in
      ap₂ (λ (x y : ℕ). x * n + y) laps (index_of p shut) ∙ div-add-mod' p n

  bare : (p : ℕ) → word_at n m p ≡ word_at n m p + 0 * m
  bare p = omega (arith, zero-mul m)

  pub index_of_word : (p : ℕ) → word_at n m p % m ≡ p % n
  index_of_word p = ap (λ (x : ℕ). x % m) (bare p) ∙ index_of p 0

  pub count_of_word : (p : ℕ) → count_at n m (word_at n m p) ≡ p
  count_of_word p = ap (count_at n m) (bare p) ∙ count_of p 0 (omega arith)

  pub word_unmarked : (p : ℕ) → is_marked m (word_at n m p) ≡ (0 == 1)
  word_unmarked p = ap (is_marked m) (bare p) ∙ marked_by p 0 (omega arith)

  pub word_a_lap_on : (p : ℕ) → word_at n m (p + n) ≡ word_at n m p + 2 * m
  word_a_lap_on p =
      let a : ℕ = p / n in let r : ℕ = p % n in
      let is : a * n + r ≡ p = div-add-mod' p n in
      let x = word_of (p + n) (suc a) r (index_below p) (omega (arith, suc-mul a n)) in
      omega (arith, suc-mul a (2 * m), parts n m p)

  word_next : (p : ℕ) → p % n + 1 < n → word_at n m (p + 1) ≡ word_at n m p + 1
  word_next p near =
      let a : ℕ = p / n in let r : ℕ = p % n in
      let is : a * n + r ≡ p = div-add-mod' p n in
      let x = word_of (p + 1) a (r + 1) near (omega arith) in
      omega (arith, parts n m p)

  word_round : (p : ℕ) → n ≤ p % n + 1 → word_at n m (p + 1) ≡ word_at n m p - p % n + 2 * m
  word_round p far =
      let a : ℕ = p / n in let r : ℕ = p % n in
      let is : a * n + r ≡ p = div-add-mod' p n in
      let near : r < n = index_below p in
      let x = word_of (p + 1) (suc a) 0 s.some (omega (arith, suc-mul a n)) in
      omega (arith, suc-mul a (2 * m), parts n m p)

  pub next_is : (p : ℕ) → next_at n m (word_at n m p) ≡ word_at n m (p + 1)
  unfolding next_at
  next_is p =
      let w : ℕ = word_at n m p in let i = index_of_word p in
      dite (dec_le n (w % m + 1))
      (λ far. ap (λ b. if b then w + 1 else w - w % m + 2 * m) (le-ltb (w % m + 1) n far)
      ∙ ap (λ (z : ℕ). w - z + 2 * m) i ∙ sym (word_round p (subst (λ (z : ℕ). n ≤ z + 1) i far)))
      (λ not. let near : w % m + 1 < n = lt_of_not-le not in
      ap (λ b. if b then w + 1 else w - w % m + 2 * m) (lt-ltb (w % m + 1) n near)
      ∙ sym (word_next p (subst (λ (z : ℕ). z + 1 < n) i near)))

  pub first_word : (i : ℕ) → i < n → word_at n m i ≡ i
  first_word i near =
      let x = word_of i 0 i near (omega (arith, zero-mul n)) in
      omega (arith, zero-mul (2 * m))

  pub place_word : (p : ℕ) → p < most_accepted → IsPlaceWord n m (word_at n m p)
  place_word p few = record {
    index = subst (λ (x : ℕ). x < n) (sym (index_of_word p)) (index_below p);
    count = subst (λ (x : ℕ). x < most_accepted) (sym (count_of_word p)) few;
  }
