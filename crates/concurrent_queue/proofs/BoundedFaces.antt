-- What equal words of a ring say of the counts. n is the number of places, m the mark above their indexes.
use Rattle.std.proofs.Common.{◌≡◌, ℕ, zero, ◌+◌, ◌*◌, ◌/◌, ◌%◌, ◌<◌, ◌≤◌, ◌-◌, ◌==◌, ◌^◌, suc, nat_lt, bit_or, bit_and, Bool, if◌then◌else◌}
use Rattle.std.proofs.Common.{true, false, sym, refl, ap, ap₂, ◌∙◌, subst, mod-lt, zero-mul, div-add-mod', arith}
use native.Mathlib.Nat.{add-mod_right}
use Rattle.std.proofs.Math.Nat.{mul-le-mul_left, mul-le-mul_right, add-div_left}
use Rattle.std.proofs.Math.Arith.{digits_div, digits_mod}
use Rattle.std.proofs.lemmas.Bool.Decides.{nat_tests}
use Rattle.std.proofs.lemmas.Nat.{or_disjoint}
use Rattle.std.proofs.lemmas.Nat.Bits.{and_pow}
use Rattle.std.specs.Int.Bits.{or_add_and}
use Rattle.queue_steps.specs.ClosableQueue.{most_accepted}
use Rattle.queue_steps.specs.Bounded.{IsShape, IsPlaceWord, word_at, count_at, next_at, is_marked}
use Rattle.queue_steps.proofs.BoundedWords.{marked_by, count_of, count_of_word}

parts : (n m p : ℕ) → word_at n m p ≡ p / n * (2 * m) + p % n
unfolding word_at
parts n m p = refl

module _ (n m : ℕ) (s : IsShape n m) where
  -- two words of one place, each with 0 or 1 added
  pub one_place : (p q u v : ℕ) → q % n ≡ p % n → u ≤ 1 → v ≤ 1 → word_at n m q + u ≡ word_at n m p + v → (q ≡ p) × (u ≡ v)
  one_place p q u v same a b e =
      let L : ℕ = 2 * m in let x : ℕ = q / n in let y : ℕ = p / n in
      let cut : x * L + u ≡ y * L + v = omega (arith, parts n m p, parts n m q) in
      let lu : u < L = omega (arith, s.some, s.above) in let lv : v < L = omega (arith, s.some, s.above) in
      let laps : x ≡ y = sym (digits_div x lu) ∙ ap (λ (z : ℕ). z / L) cut ∙ digits_div y lv in (
        sym (div-add-mod' q n) ∙ ap₂ (λ (i j : ℕ). i * n + j) laps same ∙ div-add-mod' p n,
        sym (digits_mod x lu)
            ∙ ap (λ (z : ℕ). z % L) cut ∙ digits_mod y lv,
      )

  pub one_count : (p q : ℕ) → word_at n m q ≡ word_at n m p → q ≡ p
  one_count p q e = sym (count_of_word n m s q) ∙ ap (count_at n m) e ∙ count_of_word n m s p

  pub shut_of : (p shut w : ℕ) → shut ≤ 1 → w ≡ word_at n m p + shut * m → is_marked m w ≡ false → shut ≡ 0
  shut_of p shut w once is unmarked =
      let told : (shut == 1) ≡ false = sym (marked_by n m s p shut once) ∙ ap (is_marked m) (sym is) ∙ unmarked in
      grind (arith, nat_tests)

  pub bare : (p shut : ℕ) → shut ≡ 0 → word_at n m p + shut * m ≡ word_at n m p
  bare p shut none = let z : shut * m ≡ 0 * m = ap (λ (y : ℕ). y * m) none in omega (arith, zero-mul m)

  -- a tail that is the word of a count has no mark
  pub one_tail : (p q shut : ℕ) → shut ≤ 1 → word_at n m q + shut * m ≡ word_at n m p → (q ≡ p) × (shut ≡ 0)
  one_tail p q shut once e =
      let same : q ≡ p = sym (count_of n m s q shut once) ∙ ap (count_at n m) e ∙ count_of_word n m s p in
      let cut : word_at n m p + shut * m ≡ word_at n m p = ap (λ (z : ℕ). word_at n m z + shut * m) (sym same) ∙ e in
      (same, small shut once cut)
    where
      small : (k : ℕ) → k ≤ 1 → word_at n m p + k * m ≡ word_at n m p → k ≡ 0
      small zero le c = refl
      small (suc zero) le c = absurd (omega (arith, s.above))
      small (suc (suc k)) le c = absurd (omega arith)

  -- the word of a count that a ring comes to is well below the largest number
  pub word_below : (p : ℕ) → p ≤ most_accepted → word_at n m p + m < 18446744073709551616
  word_below p few =
      let a : ℕ = p / n in let r : ℕ = p % n in
      let whole : a * n + r ≡ p = div-add-mod' p n in
      let laps : a * (2 * m) ≤ a * (4 * n) = mul-le-mul_left a (omega (arith, s.near)) in
      let four : a * (4 * n) ≡ 4 * (a * n) = grind arith in
      let near : r < n = mod-lt p s.some in
      let above : n < m = s.above in
      let small : m < 2305843009213693952 = s.few in
      omega (arith, parts n m p)

  -- a lap before, a ring had accepted no more
  no_more : (v w : ℕ) → v % m ≡ w % m → 2 * m + v ≡ w → count_at n m w < most_accepted → count_at n m v < most_accepted
  unfolding count_at
  no_more v w index sum few =
      let x : ℕ = v / (2 * m) in let y : ℕ = w / (2 * m) in
      let next : y ≡ x + 1 = ap (λ (z : ℕ). z / (2 * m)) (sym sum) ∙ add-div_left v (omega (arith, s.above)) in
      let laps : x * n ≤ y * n = mul-le-mul_right n (let le : x ≤ y = omega arith in le) in
      let few' : y * n + w % m < most_accepted = few in
      omega arith

  -- the place a lap before
  pub place_before : (w : ℕ) → 2 * m ≤ w → IsPlaceWord n m w → IsPlaceWord n m (w - 2 * m)
  place_before w far place =
      let v : ℕ = w - 2 * m in let sum : v + m + m ≡ w = omega arith in
      let index : v % m ≡ w % m = sym (add-mod_right (v + m) m ∙ add-mod_right v m) ∙ ap (λ (z : ℕ). z % m) sum in record {
        index = subst (λ (z : ℕ). z < n) (sym index) place.index;
        count = no_more v w index (omega arith) place.count;
      }

  pub next_above : (w : ℕ) → w ≤ next_at n m w
  unfolding next_at
  next_above w = by_cases (nat_lt (w % m + 1) n)
    where
      by_cases : (b : Bool) → w ≤ (if b then w + 1 else w - w % m + 2 * m)
      by_cases true = omega arith
      by_cases false = let near : w % m < m = mod-lt w (omega (arith, s.above)) in omega arith

-- the mark set in a word, as a sum
and_mark : (m w k : ℕ) → m ≡ 2 ^ k → bit_and w m ≡ w / m % 2 * m
and_mark m w k power = ap (bit_and w) power ∙ and_pow w k ∙ ap (λ (z : ℕ). w / z % 2 * z) (sym power)

pub or_open : (m w k : ℕ) → m ≡ 2 ^ k → is_marked m w ≡ false → bit_or w m ≡ w + m
unfolding is_marked
or_open m w k power unmarked = let two : w / m % 2 < 2 = mod-lt (w / m) (omega arith) in
    let none : w / m % 2 ≡ 0 = grind (arith, nat_tests) in
    or_disjoint w m (and_mark m w k power ∙ ap (λ (z : ℕ). z * m) none ∙ zero-mul m)

pub or_shut : (m w k : ℕ) → m ≡ 2 ^ k → is_marked m w ≡ true → bit_or w m ≡ w
unfolding is_marked
or_shut m w k power shut = let one : w / m % 2 ≡ 1 = grind (arith, nat_tests) in
    let both : bit_and w m ≡ 1 * m = and_mark m w k power ∙ ap (λ (z : ℕ). z * m) one in
    let sum = or_add_and w m in omega arith
