-- One queue of a walk.
use Rattle.std.proofs.Common.{◌≡◌, ◌≢◌, ℕ, zero, suc, ◌-◌, ◌<◌, List, Bool, true, false, eqb, refl, ap, ◌∙◌}
use Rattle.std.proofs.Common.{arith}
use Rattle.std.specs.Prelude.{Some}
use Rattle.std.proofs.lemmas.Bool.Decides.{nat_tests}
use Rattle.executor_model.specs.declared.op.Op.{Op}
use Rattle.executor_model.specs.declared.op.RunPoll.{RunPoll}
use Rattle.executor_model.specs.ActsOfRuns.{next_place, queue_at, walk}
use Rattle.executor_core.specs.Walks.{goes_to}

by-own : (b : Bool) (own other : List Op) → b ≡ true → elim b [ true ↦ own | false ↦ other ] ≡ own
by-own true own other e = refl
by-own false own other e = cc

by-other : (b : Bool) (own other : List Op) → b ≡ false → elim b [ true ↦ own | false ↦ other ] ≡ other
by-other true own other e = cc
by-other false own other e = refl

-- the run's own is passed
pub passes : (x : RunPoll) (qs : List ℕ) (at left : ℕ) → 0 < left → queue_at qs at ≡ x.run →
    walk x qs at left ≡ walk x qs (next_place qs at) (left - 1)
passes x qs at zero h e = absurd (omega arith)
passes x qs at (suc n) h e =
    let t : eqb (queue_at qs at) x.run ≡ true = grind (arith, nat_tests) in
    let m : n ≡ suc n - 1 = omega arith in
    by-own (eqb (queue_at qs at) x.run) (walk x qs (next_place qs at) n)
    (goes_to x (Some (record { run = queue_at qs at; next = next_place qs at; left = n }))) t
    ∙ ap (λ (k : ℕ). walk x qs (next_place qs at) k) m

-- at another it stops
pub stops : (x : RunPoll) (qs : List ℕ) (at left : ℕ) → 0 < left → queue_at qs at ≢ x.run →
    walk x qs at left
    ≡ goes_to x (Some (record { run = queue_at qs at; next = next_place qs at; left = left - 1 }))
stops x qs at zero h e = absurd (omega arith)
stops x qs at (suc n) h e =
    let t : eqb (queue_at qs at) x.run ≡ false = grind (arith, nat_tests) in
    let m : n ≡ suc n - 1 = omega arith in
    by-other (eqb (queue_at qs at) x.run) (walk x qs (next_place qs at) n)
    (goes_to x (Some (record { run = queue_at qs at; next = next_place qs at; left = n }))) t
    ∙ ap (λ (k : ℕ). goes_to x (Some (record { run = queue_at qs at; next = next_place qs at; left = k }))) m
