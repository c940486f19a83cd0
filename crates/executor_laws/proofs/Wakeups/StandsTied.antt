-- For some_standing_is_called.
-- Who wakes up or leaves is in use: among what is to do, in order, each waking up and each leaving stands before
-- what uses the tick or run.
use Rattle.std.proofs.Common.{◌≡◌, ◌≢◌, ◌∙◌, ℕ, zero, suc, ◌+◌, ◌<◌, ◌≤◌, List, [], ◌∷◌, ◌++◌, length, get_or, set, Bool, true}
use Rattle.std.proofs.Common.{false, eqb, refl, sym, ap, subst, arith, get_or-set_same, get_or-set_other}
use Rattle.std.proofs.lemmas.List.{reverse-append, reverse-reverse}
use Rattle.std.{proofs.lemmas.Bool.Decides.nat_tests, specs.Prelude.reverse}
use Rattle.executor_model.specs.Weights.{weigh, weigh_all}
use Rattle.executor_model.proofs.Steps.Lists.{weigh-append, weigh-reverse}
use Rattle.executor_laws.proofs.{Types.Op, Types.TickOrRun, Wakeups.Stands.waking_up_of, Wakeups.Stands.used_of}

abbrev Ties : TickOrRun → List Op → Type 0
Ties t [] = Unit {0}
Ties t (o ∷ os) = (1 ≤ waking_up_of t o → 1 ≤ weigh (used_of t) os) × Ties t os

pub record Tied (t : TickOrRun) (os : List Op) : Type 0 where
  pub ties : Ties t os

pub tied-nil : (t : TickOrRun) → Tied t []
tied-nil t = record { ties = tt }

pub tied-cons : (t : TickOrRun) (o : Op) (os : List Op) → (1 ≤ waking_up_of t o → 1 ≤ weigh (used_of t) os) → Tied t os →
    Tied t (o ∷ os)
tied-cons t o os k a = record { ties = (k, a.ties) }

pub tied-none : (t : TickOrRun) (os : List Op) → weigh (waking_up_of t) os ≡ 0 → Tied t os
tied-none t [] z = tied-nil t
tied-none t (o ∷ os) z = tied-cons t o os (λ k. absurd (omega (arith, k, z))) (tied-none t os (omega (arith, z)))

pub tied-append : (t : TickOrRun) (xs ys : List Op) → Tied t xs → Tied t ys → Tied t (xs ++ ys)
tied-append t [] ys a b = b
tied-append t (o ∷ os) ys a b =
    tied-cons t o (os ++ ys) (λ k. omega (arith, a.ties.0 k, weigh-append (used_of t) os ys))
    (tied-append t os ys (record { ties = a.ties.1 }) b)

tied-end : (t : TickOrRun) (xs ys : List Op) → Tied t (xs ++ ys) → Tied t ys
tied-end t [] ys a = a
tied-end t (o ∷ os) ys a = tied-end t os ys (record { ties = a.ties.1 })

-- so where something wakes up, something uses it
pub tied-used : (t : TickOrRun) (os : List Op) → Tied t os → 1 ≤ weigh (waking_up_of t) os → 1 ≤ weigh (used_of t) os
tied-used t [] a k = absurd (omega (arith, k))
tied-used t (o ∷ os) a k = by (waking_up_of t o) refl (λ z. tied-used t os (record { ties = a.ties.1 }) z)
  where
    by : (n : ℕ) → waking_up_of t o ≡ n → (1 ≤ weigh (waking_up_of t) os → 1 ≤ weigh (used_of t) os) →
        1 ≤ used_of t o + weigh (used_of t) os
    by zero e f = omega (arith, f (omega (arith, k, e)))
    by (suc n) e f = omega (arith, a.ties.0 (omega (arith, e)))

-- of every stack, the next thing last
abbrev pub IsTied : TickOrRun → List Op → Type 0
IsTied t os = Tied t (reverse os)

pub tied-push : (t : TickOrRun) (rest next : List Op) → IsTied t rest → Tied t next → IsTied t (rest ++ reverse next)
tied-push t rest next a b =
    subst (Tied t) (sym (reverse-append rest (reverse next) ∙
    ap (λ (xs : List Op). xs ++ reverse rest) (reverse-reverse next)))
    (tied-append t next (reverse rest) b a)

pub tied-rest : (t : TickOrRun) (rest old : List Op) → IsTied t (rest ++ reverse old) → IsTied t rest
tied-rest t rest old e =
    tied-end t old (reverse rest)
    (subst (Tied t) (reverse-append rest (reverse old) ∙
    ap (λ (xs : List Op). xs ++ reverse rest) (reverse-reverse old)) e)

pub tied-set : (t : TickOrRun) (ss : List (List Op)) (p : ℕ) (os : List Op) → p < length ss →
    ((q : ℕ) → IsTied t (get_or ss q [])) → IsTied t os → (q : ℕ) → IsTied t (get_or (set ss p os) q [])
tied-set t ss p os l h e q = by (eqb q p) refl
  where
    by : (b : Bool) → eqb q p ≡ b → IsTied t (get_or (set ss p os) q [])
    by true z = let i : q ≡ p = grind (arith, nat_tests) in
        subst (IsTied t) (sym (ap (λ (k : ℕ). get_or (set ss p os) k []) i ∙ get_or-set_same ss p os [] l)) e
    by false z = let i : q ≢ p = grind (arith, nat_tests) in
        subst (IsTied t) (sym (get_or-set_other ss p q os [] i)) (h q)

-- over the stacks of all parties
pub tied-all : (t : TickOrRun) (ss : List (List Op)) → ((q : ℕ) → IsTied t (get_or ss q [])) →
    1 ≤ weigh_all (waking_up_of t) ss → 1 ≤ weigh_all (used_of t) ss
tied-all t [] h k = absurd (omega (arith, k))
tied-all t (s ∷ ss) h k = by (weigh (waking_up_of t) s) refl (λ z. tied-all t ss (λ q. h (suc q)) z)
  where
    by : (n : ℕ) → weigh (waking_up_of t) s ≡ n →
        (1 ≤ weigh_all (waking_up_of t) ss → 1 ≤ weigh_all (used_of t) ss) →
        1 ≤ weigh (used_of t) s + weigh_all (used_of t) ss
    by zero e f = omega (arith, f (omega (arith, k, e)))
    by (suc n) e f = omega (
      arith,
      tied-used t (reverse s) (h 0) (omega (arith, e, weigh-reverse (waking_up_of t) s)),
      weigh-reverse (used_of t) s,
    )
