-- A word has one state.
use Rattle.std.proofs.Common.{◌≡◌, ℕ, zero, suc, ◌+◌, ◌*◌, ◌/◌, ◌%◌, ◌<◌, ◌≤◌, Bool, true, false, nat_eq, refl, ap, ◌∙◌, div-add-mod'}
use Rattle.std.proofs.Common.{arith}
use Rattle.task_moves.specs.declared.moves.state.State.{State}
use Rattle.task_word.specs.Word.{bit, pack}

-- one bit and the rest
pub peel : (x y : Bool) (m n : ℕ) → bit x + 2 * m ≡ bit y + 2 * n → (x ≡ y) × (m ≡ n)
peel true true m n e = (refl, omega arith)
peel false false m n e = (refl, omega arith)
peel true false m n e = absurd (omega arith)
peel false true m n e = absurd (omega arith)

pub one_state : (a b : State) (p q : Bool) → pack a p ≡ pack b q → (a ≡ b) × (p ≡ q)
one_state a b p q e =
    let s = peel a.scheduled b.scheduled _ _ e in
    let r = peel a.running b.running _ _ s.1 in
    let c = peel a.completed b.completed _ _ r.1 in
    let x = peel a.closed b.closed _ _ c.1 in
    let h = peel a.handle b.handle _ _ x.1 in
    let w = peel a.awaiter b.awaiter _ _ h.1 in
    let g = peel a.registering b.registering _ _ w.1 in
    let n = peel a.notifying b.notifying _ _ g.1 in
    let t = peel p q _ _ n.1 in (
      (λ i. record {
        scheduled = s.0 i;
        running = r.0 i;
        completed = c.0 i;
        closed = x.0 i;
        handle = h.0 i;
        awaiter = w.0 i;
        registering =
            g.0 i;
        notifying = n.0 i;
        references = t.1 i;
      }),
      t.0,
    )

-- a number is its last bit and its half
half_of : (r : ℕ) (h n : ℕ) → h * 2 + r ≡ n → r ≡ n % 2 → bit (nat_eq r 1) + 2 * h ≡ n
half_of zero h n e m = omega arith
half_of (suc zero) h n e m = omega arith
half_of (suc (suc r)) h n e m = absurd (omega arith)

pub halved : (n : ℕ) → bit (nat_eq (n % 2) 1) + 2 * (n / 2) ≡ n
halved n = half_of (n % 2) (n / 2) n (div-add-mod' n 2) refl

onto : (n rest : ℕ) → rest ≡ n / 2 → bit (nat_eq (n % 2) 1) + 2 * rest ≡ n
onto n rest e = ap (λ (z : ℕ). bit (nat_eq (n % 2) 1) + 2 * z) e ∙ halved n

-- a word is its bits and what is left
pub unpacked : (n : ℕ)
    → pack (record {
      scheduled = nat_eq (n % 2) 1;
      running = nat_eq (n / 2 % 2) 1;
      completed = nat_eq (n / 2 / 2 % 2) 1;
      closed =
          nat_eq (n / 2 / 2 / 2 % 2) 1;
      handle = nat_eq (n / 2 / 2 / 2 / 2 % 2) 1;
      awaiter = nat_eq (n / 2 / 2 / 2 / 2 / 2 % 2) 1;
      registering =
          nat_eq (n / 2 / 2 / 2 / 2 / 2 / 2 % 2) 1;
      notifying = nat_eq (n / 2 / 2 / 2 / 2 / 2 / 2 / 2 % 2) 1;
      references =
          n / 2 / 2 / 2 / 2 / 2 / 2 / 2 / 2 / 2;
    }) (nat_eq (n / 2 / 2 / 2 / 2 / 2 / 2 / 2 / 2 % 2) 1) ≡ n
unpacked n = onto n _
    (onto (n / 2) _ (onto (n / 2 / 2) _ (onto (n / 2 / 2 / 2) _
    (onto (n / 2 / 2 / 2 / 2) _ (onto (n / 2 / 2 / 2 / 2 / 2) _
    (onto (n / 2 / 2 / 2 / 2 / 2 / 2) _ (onto (n / 2 / 2 / 2 / 2 / 2 / 2 / 2) _ (onto (n / 2 / 2 / 2 / 2 / 2 / 2 / 2 / 2) _ refl))))))))

pub bit_small : (b : Bool) → bit b ≤ 1
bit_small true = omega arith
bit_small false = omega arith

-- the bit of a resting Runnable is 256
pub rests_at : (s : State) → pack s false < 18446744073709551616 → (pack s false + 256) % 18446744073709551616 ≡ pack s true
rests_at s small = let a : bit s.scheduled ≤ 1 = bit_small _ in let b : bit s.running ≤ 1 = bit_small _ in
    let c : bit s.completed ≤ 1 = bit_small _ in let d : bit s.closed ≤ 1 = bit_small _ in
    let e : bit s.handle ≤ 1 = bit_small _ in let f : bit s.awaiter ≤ 1 = bit_small _ in let g : bit s.registering ≤ 1 = bit_small _ in
    let h : bit s.notifying ≤ 1 = bit_small _ in omega arith
