-- What the places of a ring hold after one of them changed.
use Rattle.std.proofs.Common.{◌≡◌, ◌≢◌, ℕ, zero, suc, ◌+◌, ◌*◌, ◌/◌, ◌%◌, ◌<◌, ◌≤◌, List, ◌++◌, length, slice_set, true, false, Option}
use Rattle.std.proofs.Common.{Some, None, IsSome, option_to_list, sym, refl, ap, ap₂, ◌∙◌, append_assoc, length-append, div-add-mod'}
use Rattle.std.proofs.Common.{suc-mul, lt_of_not-le, arith}
use Rattle.std.proofs.lemmas.List.{append-nil, get_or-set_other}
use Rattle.std.proofs.Math.Nat.{mul-le-mul_right}
use mathlib.Core.Logic.{dite}
use native.Mathlib.Decide.{dec_le}
use Rattle.queue_steps.specs.declared.bounded.Slot.{Slot}
use Rattle.queue_steps.specs.BoundedAtRest.{slot_at, held}

-- counts less than a lap apart have places of their own
pub places_differ : (n a b : ℕ) → a < b → b < a + n → a % n ≢ b % n
places_differ n a b below near same =
    let x : ℕ = a / n in let y : ℕ = b / n in
    let a_is : x * n + a % n ≡ a = div-add-mod' a n in
    let b_is : y * n + b % n ≡ b = div-add-mod' b n in
    dite (dec_le y x)
    (λ le. let z : y * n ≤ x * n = mul-le-mul_right n le in omega arith)
    (λ not. let more : suc x ≤ y = lt_of_not-le not in let z : suc x * n ≤ y * n = mul-le-mul_right n more in let w = suc-mul x n in
    omega arith)

module _ {T : Type 0} (n : ℕ) where
  pub held-set_other : (slots : List (Slot T)) (i : ℕ) (x : Slot T) (p k : ℕ) → ((q : ℕ) → p ≤ q → q < p + k → q % n ≢ i)
      → held n (slice_set slots i x) p k ≡ held n slots p k
  held-set_other slots i x p zero apart = refl
  held-set_other slots i x p (suc k) apart =
      ap₂ (λ (s : Slot T) (rest : List T). option_to_list s.value ++ rest)
      (get_or-set_other slots i (p % n) x (record { stamp = 0; value = None }) (apart p (omega arith) (omega arith)))
      (held-set_other slots i x (p + 1) k (λ q a b. apart q (omega arith) (omega arith)))

  pub held-suc : (slots : List (Slot T)) (p k : ℕ)
      → held n slots p (suc k) ≡ held n slots p k ++ option_to_list (slot_at slots ((p + k) % n)).value
  held-suc slots p zero = append-nil (option_to_list (slot_at slots (p % n)).value)
      ∙ ap (λ (q : ℕ). option_to_list (slot_at slots (q % n)).value) (let z : p ≡ p + 0 = omega arith in z)
  held-suc slots p (suc k) =
      ap (λ (rest : List T). option_to_list (slot_at slots (p % n)).value ++ rest)
      (held-suc slots (p + 1) k
      ∙ ap (λ (q : ℕ). held n slots (p + 1) k ++ option_to_list (slot_at slots (q % n)).value) (let z : p + 1 + k ≡ p + suc k =
      omega arith in z))
      ∙ sym (append_assoc (option_to_list (slot_at slots (p % n)).value) (held n slots (p + 1) k)
      (option_to_list (slot_at slots ((p + suc k) % n)).value))

  one_of : (o : Option T) → IsSome o → length (option_to_list o) ≡ 1
  one_of (Some x) some = refl
  one_of None some = absurd (let e : false ≡ true = some in cc)

  pub length-held : (slots : List (Slot T)) (p k : ℕ) → ((q : ℕ) → p ≤ q → q < p + k → IsSome (slot_at slots (q % n)).value)
      → length (held n slots p k) ≡ k
  length-held slots p zero filled = refl
  length-held slots p (suc k) filled =
      let one = one_of (slot_at slots (p % n)).value (filled p (omega arith) (omega arith)) in
      let rest = length-held slots (p + 1) k (λ q a b. filled q (omega arith) (omega arith)) in
      let both = length-append (option_to_list (slot_at slots (p % n)).value) (held n slots (p + 1) k) in
      omega arith
