use Rattle.std.proofs.Common.{ℕ, zero, suc, ◌+◌, ◌*◌, ◌<◌, ◌^◌, ◌≡◌, ap, ◌∙◌, sym, arith}
use Rattle.std.proofs.Math.Nat.{pow-suc}
use Rattle.queue_steps.proofs.steps.bounded.Shape.new.Goals as goal

pub loop-mark-preserved : goal.loop-mark-preserved
loop-mark-preserved c =
    let old = c.loop-mark.invariant in let bits : ℕ = c.loop-mark.bits in (
      omega arith,
      omega arith,
      ap (λ (n : ℕ). n * 2) old.2 ∙ sym (pow-suc 2 bits)
          ∙ ap (λ (k : ℕ). 2 ^ k) (let z : suc bits ≡ bits + 1 = omega arith in z),
    )

-- two to a number exceeds it
below : (k : ℕ) → k < 2 ^ k
below zero = omega arith
below (suc k) = let more = pow-suc 2 k in let less = below k in omega arith

pub overflow_add-bits : goal.overflow_add-bits
overflow_add-bits c =
    let old = c.loop-mark.invariant in let bits : ℕ = c.loop-mark.bits in let less = below bits in let few = c.requires.few in
    let is = old.2 in
    omega arith
