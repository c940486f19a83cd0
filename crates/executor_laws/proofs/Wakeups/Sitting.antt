-- For some_standing_is_called.
-- Ticks and runs together: which of them one is, and what the world has of it.
use Rattle.std.proofs.Common.{◌≡◌, ◌≢◌, ◌⊎◌, ℕ, ◌≤◌, ◌==◌, List, [], length, get_or, Bool, true, false, eqb, cond, refl, sym}
use Rattle.std.proofs.Common.{ap, ◌∙◌, inl, inr, ⊎_elim, arith}
use Rattle.std.specs.Prelude.{not, nat_lt}
use Rattle.executor_laws.proofs.Types.{Hold, TickOrRun}
use Rattle.executor_model.specs.World.{World, Ticker, Left, Run, no_run, place_of}
use Rattle.executor_model.specs.{Weights.same, Steps.lives}
use Rattle.executor_model.proofs.{Steps.Lists.same_cases, OwnQueues.UsingWorlds.is_over_stage}

-- one where they are the same
abbrev pub is_it : TickOrRun → TickOrRun → ℕ
is_it (TickOrRun.Tick t) (TickOrRun.Tick u) = same t u
is_it (TickOrRun.Tick t) (TickOrRun.Run q) = 0
is_it (TickOrRun.Run r) (TickOrRun.Tick u) = 0
is_it (TickOrRun.Run r) (TickOrRun.Run q) = same r q

abbrev pub eq_who : TickOrRun → TickOrRun → Bool
eq_who (TickOrRun.Tick t) (TickOrRun.Tick u) = t == u
eq_who (TickOrRun.Tick t) (TickOrRun.Run q) = false
eq_who (TickOrRun.Run r) (TickOrRun.Tick u) = false
eq_who (TickOrRun.Run r) (TickOrRun.Run q) = r == q

abbrev pub IsSame : TickOrRun → TickOrRun → Type 0
IsSame a b = (is_it a b ≡ 1) × (eq_who a b ≡ true) × (a ≡ b)

abbrev pub IsOther : TickOrRun → TickOrRun → Type 0
IsOther a b = (is_it a b ≡ 0) × (eq_who a b ≡ false) × (a ≢ b)

pub who_cases : (a b : TickOrRun) → IsSame a b ⊎ IsOther a b
who_cases (TickOrRun.Tick t) (TickOrRun.Tick u) = ⊎_elim
    (λ (x : (same t u ≡ 1) × (eqb t u ≡ true) × (t ≡ u)). inl (x.0, x.1, ap (λ (n : ℕ). TickOrRun.Tick n) x.2))
    (λ (x : (same t u ≡ 0) × (eqb t u ≡ false) × (t ≢ u)).
    inr (x.0, x.1, λ e. x.2 (let z : t ≡ u = cc in z)))
    (same_cases t u)
who_cases (TickOrRun.Tick t) (TickOrRun.Run q) = inr (refl, refl, λ e. cc)
who_cases (TickOrRun.Run r) (TickOrRun.Tick u) = inr (refl, refl, λ e. cc)
who_cases (TickOrRun.Run r) (TickOrRun.Run q) = ⊎_elim
    (λ (x : (same r q ≡ 1) × (eqb r q ≡ true) × (r ≡ q)). inl (x.0, x.1, ap (λ (n : ℕ). TickOrRun.Run n) x.2))
    (λ (x : (same r q ≡ 0) × (eqb r q ≡ false) × (r ≢ q)).
    inr (x.0, x.1, λ e. x.2 (let z : r ≡ q = cc in z)))
    (same_cases r q)

pub self : (a : TickOrRun) → is_it a a ≡ 1
self a = ⊎_elim (λ (x : IsSame a a). x.0) (λ (x : IsOther a a). absurd (x.2 refl)) (who_cases a a)

pub eq-self : (a : TickOrRun) → eq_who a a ≡ true
eq-self a = ⊎_elim (λ (x : IsSame a a). x.1) (λ (x : IsOther a a). absurd (x.2 refl)) (who_cases a a)

pub other : (a b : TickOrRun) → a ≢ b → is_it a b ≡ 0
other a b n = ⊎_elim (λ (x : IsSame a b). absurd (n x.2)) (λ (x : IsOther a b). x.0) (who_cases a b)

pub eq-other : (a b : TickOrRun) → a ≢ b → eq_who a b ≡ false
eq-other a b n = ⊎_elim (λ (x : IsSame a b). absurd (n x.2)) (λ (x : IsOther a b). x.1) (who_cases a b)

pub eq-is : (a b : TickOrRun) → eq_who a b ≡ true → a ≡ b
eq-is a b e = ⊎_elim (λ (x : IsSame a b). x.2)
    (λ (x : IsOther a b). let no : false ≡ true = sym x.1 ∙ e in absurd (cc)) (who_cases a b)

pub few : (a b : TickOrRun) → is_it a b ≤ 1
few a b = ⊎_elim (λ (x : IsSame a b). omega (arith, x.0)) (λ (x : IsOther a b). omega (arith, x.0)) (who_cases a b)

pub is-cond : (a b : TickOrRun) → is_it a b ≡ cond (eq_who a b) 1 0
is-cond a b = ⊎_elim
    (λ (x : IsSame a b). x.0 ∙ sym (ap (λ (c : Bool). let n : ℕ = cond c 1 0 in n) x.1))
    (λ (x : IsOther a b). x.0 ∙ sym (ap (λ (c : Bool). let n : ℕ = cond c 1 0 in n) x.1))
    (who_cases a b)

pub cond-other : (a b : TickOrRun) (n : ℕ) → a ≢ b → cond (eq_who a b) n 0 ≡ 0
cond-other a b n x = ap (λ (c : Bool). cond c n 0) (eq-other a b x)

pub cond-self : (a : TickOrRun) (n : ℕ) → cond (eq_who a a) n 0 ≡ n
cond-self a n = ap (λ (c : Bool). cond c n 0) (eq-self a)

-- a call holds it
abbrev pub holds_it : TickOrRun → Hold → ℕ
holds_it who (Hold.Tick t) = is_it who (TickOrRun.Tick t)
holds_it who (Hold.Run r) = is_it who (TickOrRun.Run r)
holds_it who _ = 0

-- what the world has of it: where it is, whether it lives and was made, whether it is a run that is over, and how much
-- stands in its own queue

abbrev pub place_in : TickOrRun → List Ticker → List Run → Ticker
place_in (TickOrRun.Tick t) ts rs = get_or ts t Left
place_in (TickOrRun.Run r) ts rs = (get_or rs r no_run).place

abbrev pub lives_in : TickOrRun → List Ticker → List Run → Bool
lives_in (TickOrRun.Tick t) ts rs = lives (get_or ts t Left)
lives_in (TickOrRun.Run r) ts rs = not (get_or rs r no_run).dropped

abbrev pub made_in : TickOrRun → List Ticker → List Run → Bool
made_in (TickOrRun.Tick t) ts rs = nat_lt t (length ts)
made_in (TickOrRun.Run r) ts rs = nat_lt r (length rs)

abbrev pub over_in : TickOrRun → List Run → Bool
over_in (TickOrRun.Tick t) rs = false
over_in (TickOrRun.Run r) rs = is_over_stage (get_or rs r no_run).stage

abbrev pub owned_in : TickOrRun → List (List ℕ) → ℕ
owned_in (TickOrRun.Tick t) qs = 0
owned_in (TickOrRun.Run r) qs = length (get_or qs r [])

pub placed-in : (w : World) (who : TickOrRun) → place_of w who ≡ place_in who w.ticks w.runs
placed-in w (TickOrRun.Tick t) = refl
placed-in w (TickOrRun.Run r) = refl
