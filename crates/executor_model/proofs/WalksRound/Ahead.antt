-- For walks_go_round.
-- A walk goes to each queue of the list but the walker's own.
use Rattle.std.proofs.Common.{◌≡◌, ◌≢◌, ◌⊎◌, ℕ, zero, suc, ◌+◌, ◌-◌, ◌<◌, ◌≤◌, List, [], ◌∷◌, length, Bool, true, false, cond}
use Rattle.std.proofs.Common.{eqb, inl, inr, ⊎_elim, refl, sym, ap, subst, arith}
use Rattle.std.{proofs.lemmas.Bool.Decides.nat_tests, specs.Prelude.nat_lt}
use Rattle.executor_model.specs.ActsOfRuns.{next_place, queue_at, walk}
use Rattle.executor_model.specs.{Sound.times, WalksRound.theft, Weights.same}
use Rattle.executor_model.proofs.{Types.Op, Types.RunPoll, Types.Own, Types.StealOp, Types.Then, Steps.Lists.same_cases}

-- one of the next so many places of the list, from this one on, has such a queue
abbrev pub Ahead : (ℕ → Type 0) → List ℕ → ℕ → ℕ → Type 0
Ahead P qs at zero = ⊥
Ahead P qs at (suc left) = P (queue_at qs at) ⊎ Ahead P qs (next_place qs at) left

next-up : (qs : List ℕ) (at : ℕ) → at + 1 < length qs → next_place qs at ≡ at + 1
next-up qs at l =
    let b : nat_lt (at + 1) (length qs) ≡ true = grind (arith, nat_tests) in
    ap {B = ℕ} (λ (x : Bool). cond x (at + 1) 0) b

next-round : (qs : List ℕ) (at : ℕ) → at + 1 ≡ length qs → next_place qs at ≡ 0
next-round qs at e =
    let b : nat_lt (at + 1) (length qs) ≡ false = grind (arith, nat_tests) in
    ap {B = ℕ} (λ (x : Bool). cond x (at + 1) 0) b

module _ (P : ℕ → Type 0) (qs : List ℕ) (i : ℕ) (h : P (queue_at qs i)) (l : i < length qs) where
  up : (k at left : ℕ) → at + k ≡ i → k < left → Ahead P qs at left
  up k at zero e n = absurd (omega (arith, n))
  up zero at (suc left) e n =
      let j : i ≡ at = omega (arith, e) in inl (subst (λ (m : ℕ). P (queue_at qs m)) j h)
  up (suc k) at (suc left) e n =
      inr (subst (λ (m : ℕ). Ahead P qs m left) (sym (next-up qs at (omega (arith, e, l))))
      (up k (at + 1) left (omega (arith, e)) (omega (arith, n))))

  round : (m at left : ℕ) → at + (m + 1) ≡ length qs → m + 1 + i < left → Ahead P qs at left
  round m at zero e n = absurd (omega (arith, n))
  round zero at (suc left) e n =
      inr (subst (λ (k : ℕ). Ahead P qs k left) (sym (next-round qs at (omega (arith, e))))
      (up i 0 left (omega arith) (omega (arith, n))))
  round (suc m) at (suc left) e n =
      inr (subst (λ (k : ℕ). Ahead P qs k left) (sym (next-up qs at (omega (arith, e))))
      (round m (at + 1) left (omega (arith, e)) (omega (arith, n))))

  -- from wherever it starts
  pub all-ahead : (at : ℕ) → at < length qs → Ahead P qs at (length qs)
  all-ahead at n = ⊎_elim
      (λ (k : at ≤ i). up (i - at) at (length qs) (omega (arith, k)) (omega (arith, k, l)))
      (λ (k : i < at). round (length qs - (at + 1)) at (length qs) (omega (arith, n)) (omega (arith, n, k)))
      (le-or at i)
    where
      le-or : (x y : ℕ) → (x ≤ y) ⊎ (y < x)
      le-or x y = grind arith

-- where a queue stands in the list
pub record InList (r : ℕ) (qs : List ℕ) : Type 0 where
  pub place : ℕ
  pub within : place < length qs
  pub is : queue_at qs place ≡ r

pub in-list : (r : ℕ) (qs : List ℕ) → 1 ≤ times r qs → InList r qs
in-list r [] z = absurd (omega (arith, z))
in-list r (q ∷ qs) z = ⊎_elim
    (λ (x : (same r q ≡ 1) × (eqb r q ≡ true) × (r ≡ q)).
    record { place = 0; within = omega arith; is = sym x.2 })
    (λ (x : (same r q ≡ 0) × (eqb r q ≡ false) × (r ≢ q)).
    let k : InList r qs = in-list r qs (omega (arith, z, x.0)) in
    record { place = suc k.place; within = omega (arith, k.within); is = k.is })
    (same_cases r q)

-- the walk steals from the next of them that isn't the run's own

pub record WalksOn (P : ℕ → Type 0) (x : RunPoll) (qs : List ℕ) (os : List Op) : Type 0 where
  pub queue : ℕ
  pub at : ℕ
  pub left : ℕ
  pub is : os ≡ Op.Steal (StealOp.Length (theft x queue at left)) ∷ []
  pub other : queue ≢ x.run
  pub ahead : P queue ⊎ Ahead P qs at left

pub walks-on : (P : ℕ → Type 0) (x : RunPoll) (qs : List ℕ) → ((q : ℕ) → P q → q ≢ x.run) → (at left : ℕ) →
    Ahead P qs at left → WalksOn P x qs (walk x qs at left)
walks-on P x qs k at zero h = absurd h
walks-on P x qs k at (suc left) h =
    by (eqb (queue_at qs at) x.run) refl (λ z. walks-on P x qs k (next_place qs at) left z)
  where
    by : (b : Bool) → eqb (queue_at qs at) x.run ≡ b →
        (Ahead P qs (next_place qs at) left → WalksOn P x qs (walk x qs (next_place qs at) left)) →
        WalksOn P x qs (let os : List Op = elim b [
          | true ↦ walk x qs (next_place qs at) left
          | false ↦ Op.Steal (StealOp.Length (record {
            poll = x;
            from = Own (queue_at qs at);
            then = Then.Walk (next_place qs at) left;
          })) ∷ []
        ] in os)
    by true e again =
        let i : queue_at qs at ≡ x.run = grind (arith, nat_tests) in
        again (⊎_elim
        (λ (z : P (queue_at qs at)). absurd (k (queue_at qs at) z i))
        (λ (z : Ahead P qs (next_place qs at) left). z) h)
    by false e again =
        let n : queue_at qs at ≢ x.run = grind (arith, nat_tests) in
        record {
          queue = queue_at qs at;
          at = next_place qs at;
          left = left;
          is = refl;
          other = n;
          ahead = h;
        }
