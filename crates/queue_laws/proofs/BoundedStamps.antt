-- What two words of a ring that are the same tell of their counts. n is the number of places, m the mark.
use Rattle.std.proofs.lemmas.Bool.Decides.{nat_tests}
use Rattle.std.proofs.Common.{◌≡◌, ℕ, ◌+◌, ◌*◌, ◌/◌, ◌%◌, ◌<◌, ◌≤◌, Bool, true, false, ◌==◌, sym, refl, ap, ◌∙◌, zero-mul}
use Rattle.std.proofs.Common.{arith}
use Rattle.std.proofs.Math.Arith.{digits_div}
use native.Mathlib.Nat.{add-mod_right}
use Rattle.queue_steps.specs.Bounded.{IsShape, word_at, count_at, is_marked}
use Rattle.queue_steps.proofs.BoundedWords.{index_of, marked_by, count_of, word_a_lap_on}

abbrev pub bit : Bool → ℕ
bit true = 1
bit false = 0

at_most_one : (b : Bool) → bit b ≤ 1
at_most_one b = grind (arith, nat_tests)

bit_test : (b : Bool) → (bit b == 1) ≡ b
bit_test true = refl
bit_test false = refl

parts : (n m p : ℕ) → word_at n m p ≡ p / n * (2 * m) + p % n
unfolding word_at
parts n m p = refl

-- counts of one place less than a lap apart are the same
pub same_count : (n a b : ℕ) → a ≤ b → b < a + n → a % n ≡ b % n → a ≡ b
same_count n a b le near same = grind (arith, nat_tests)

pub a_lap_on : (n p : ℕ) → (p + n) % n ≡ p % n
a_lap_on n p = add-mod_right p n

module _ (n m : ℕ) (s : IsShape n m) where
  -- the tail of the count p, with its mark or not
  abbrev pub tail_word : ℕ → Bool → ℕ
  tail_word p b = word_at n m p + bit b * m

  pub marked_is : (p : ℕ) (b : Bool) → is_marked m (tail_word p b) ≡ b
  marked_is p b = grind (arith, nat_tests, marked_by, at_most_one, bit_test)

  pub tail_index : (p : ℕ) (b : Bool) → tail_word p b % m ≡ p % n
  tail_index p b = grind (arith, nat_tests, index_of)

  pub tail_count : (p : ℕ) (b : Bool) → count_at n m (tail_word p b) ≡ p
  tail_count p b = grind (arith, nat_tests, count_of, at_most_one)

  pub bare : (p : ℕ) → tail_word p false ≡ word_at n m p
  bare p = omega (arith, zero-mul m)

  pub marked : (p : ℕ) → tail_word p true ≡ word_at n m p + m
  marked p = omega arith

  pub same_tail : (p q : ℕ) (a b : Bool) → tail_word p a ≡ tail_word q b → (p ≡ q) × (a ≡ b)
  same_tail p q a b e = (
    sym (tail_count p a) ∙ ap (count_at n m) e ∙ tail_count q b,
    sym (marked_is p a) ∙ ap (is_marked m) e ∙ marked_is q b,
  )

  pub one_count : (p q : ℕ) → word_at n m p ≡ word_at n m q → p ≡ q
  one_count p q e = (same_tail p q false false (grind (arith, nat_tests))).0

  -- a tail that is a word without mark
  pub one_tail : (p q : ℕ) (b : Bool) → tail_word p b ≡ word_at n m q → (p ≡ q) × (b ≡ false)
  one_tail p q b e = same_tail p q b false (e ∙ sym (bare q))

  -- two stamps of one place, each with 0 or 1 added
  pub one_slot : (p q u v : ℕ) → q % n ≡ p % n → u ≤ 1 → v ≤ 1 → word_at n m q + u ≡ word_at n m p + v → (q ≡ p) × (u ≡ v)
  one_slot p q u v same a b e =
      let lap : ℕ = 2 * m in let x : ℕ = q / n in let y : ℕ = p / n in
      let some : 0 < n = s.some in let above : n < m = s.above in
      let cut : x * lap + u ≡ y * lap + v = omega (arith, parts n m p, parts n m q) in
      let lu : u < lap = omega arith in let lv : v < lap = omega arith in
      let laps : x ≡ y = sym (digits_div x lu) ∙ ap (λ (z : ℕ). z / lap) cut ∙ digits_div y lv in (
        grind (arith, nat_tests),
        grind (arith, nat_tests),
      )

  -- the stamp of a place and the word of a later lap
  pub one_slot_behind : (p c u : ℕ) → p % n ≡ c % n → u ≤ 1 → word_at n m p + u + 2 * m ≡ word_at n m c + 1 → (p + n ≡ c) × (u ≡ 1)
  one_slot_behind p c u same a e =
      let on = word_a_lap_on n m s p in
      one_slot c (p + n) u 1 (a_lap_on n p ∙ same) a (omega arith) (omega arith)

  pub head_behind : (q : ℕ) (b : Bool) (p : ℕ) → word_at n m p + 2 * m ≡ tail_word q b → (p + n ≡ q) × (false ≡ b)
  head_behind q b p e = same_tail (p + n) q false b (bare (p + n) ∙ word_a_lap_on n m s p ∙ e)

  pub head_behind_marked : (q : ℕ) (b : Bool) (p : ℕ) → word_at n m p + 3 * m ≡ tail_word q b → (p + n ≡ q) × (true ≡ b)
  head_behind_marked q b p e =
      let on = word_a_lap_on n m s p in let mark = marked (p + n) in
      same_tail (p + n) q true b (omega arith)
