-- For runs_find_due_futures.
-- Lists of stages of runs, in which a run isn't new.
use Rattle.std.proofs.Common.{◌≡◌, ◌≢◌, ℕ, zero, suc, ◌<◌, List, [], ◌∷◌, ◌++◌, length, get_or, set, arith}
use Rattle.executor_model.specs.World.{Stage, New, Listed, Ended}

abbrev pub Staged : List Stage → ℕ → Type 0
Staged ss r = get_or ss r Ended ≢ New

pub new-there : (ss : List Stage) (q : ℕ) → get_or ss q Ended ≡ New → q < length ss
new-there [] q e = absurd (cc)
new-there (s ∷ ss) zero e = omega arith
new-there (s ∷ ss) (suc q) e = omega (arith, new-there ss q e)

pub set-other : (ss : List Stage) (q r : ℕ) (x : Stage) → x ≢ New → Staged ss r → Staged (set ss q x) r
set-other [] q r x n h = h
set-other (s ∷ ss) zero zero x n h = n
set-other (s ∷ ss) zero (suc r) x n h = h
set-other (s ∷ ss) (suc q) zero x n h = h
set-other (s ∷ ss) (suc q) (suc r) x n h = set-other ss q r x n h

pub push-old : (ss : List Stage) (r : ℕ) → r < length ss → Staged ss r → Staged (ss ++ New ∷ []) r
push-old [] r l h = absurd (omega (arith, l))
push-old (s ∷ ss) zero l h = h
push-old (s ∷ ss) (suc r) l h = push-old ss r (omega (arith, l)) h

pub set-same : (ss : List Stage) (q : ℕ) (x : Stage) → x ≢ New → Staged (set ss q x) q
set-same [] q x n = λ (e : Ended ≡ New). absurd (cc)
set-same (s ∷ ss) zero x n = n
set-same (s ∷ ss) (suc q) x n = set-same ss q x n

pub listed-old : Listed ≢ New
listed-old e = absurd (cc)

pub ended-old : Ended ≢ New
ended-old e = absurd (cc)
