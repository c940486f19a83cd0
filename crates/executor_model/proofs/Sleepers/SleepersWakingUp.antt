-- For sleepers_agree and sleepers_are_told.
-- Who wakes up tells next: among what is to do, in order, each waking up stands right before an exchange of the flag.
use Rattle.std.proofs.Common.{◌≡◌, ◌≢◌, ◌∙◌, ℕ, ◌+◌, ◌<◌, ◌≤◌, List, [], ◌∷◌, ◌++◌, length, set, Bool, true, false, ◌&&◌, ◌||◌}
use Rattle.std.proofs.Common.{not, eqb, refl, sym, ap, subst, arith, get_or, get_or-set_same, get_or-set_other}
use Rattle.std.proofs.lemmas.List.{reverse-append, reverse-reverse}
use Rattle.std.{proofs.lemmas.Bool.Decides.nat_tests, specs.Prelude.reverse}
use Rattle.executor_model.proofs.Types.{Mark, Op, RunPoll, TickOrRun, SleeperOp, TickOp}
use Rattle.executor_model.specs.World.{World, Ticker, Awake, Asleep, Left, run_of}
use Rattle.executor_model.specs.{ActsOfSleepers.found_by, SleepersTold.tells_of, Weights.weigh}
use Rattle.executor_model.proofs.Steps.Lists.{weigh-reverse}
use Rattle.executor_model.specs.ActsOfRuns as runs

abbrev pub wakes_up_of : Op → ℕ
wakes_up_of (Op.Tick (TickOp.WakeUp who)) = 1
wakes_up_of _ = 0

abbrev pub is_wake_up : Op → Bool
is_wake_up (Op.Tick (TickOp.WakeUp who)) = true
is_wake_up _ = false

abbrev pub is_exchange : Op → Bool
is_exchange (Op.Sleeper SleeperOp.ExchangeFlag) = true
is_exchange _ = false

abbrev pub starts_telling : List Op → Bool
starts_telling [] = false
starts_telling (o ∷ os) = is_exchange o

abbrev pub wakes_up_well : List Op → Bool
wakes_up_well [] = true
wakes_up_well (o ∷ os) = (not (is_wake_up o) || starts_telling os) && wakes_up_well os

none : (o : Op) → wakes_up_of o ≡ 0 → is_wake_up o ≡ false
none (Op.Tick (TickOp.WakeUp who)) z = absurd (omega (arith, z))
none _ z = refl

-- where nobody wakes up
pub wakes_up-none : (os : List Op) → weigh wakes_up_of os ≡ 0 → wakes_up_well os ≡ true
wakes_up-none [] z = refl
wakes_up-none (o ∷ os) z = rw (none o (omega (arith, z)), wakes_up-none os (omega (arith, z))) refl

both : (a b : Bool) → a ≡ true → b ≡ true → (a && b) ≡ true
both a b e q = rw (e, q) refl

first : (a b : Bool) → (a && b) ≡ true → a ≡ true
first true b e = refl
first false b e = e

second : (a b : Bool) → (a && b) ≡ true → b ≡ true
second true b e = e
second false b e = absurd (cc)

-- what stands alone is no waking up
alone : (a b : Bool) → (not a || false) ≡ true → (not a || b) ≡ true
alone true b e = absurd (cc)
alone false b e = refl

pub wakes_up-append : (xs ys : List Op) → wakes_up_well xs ≡ true → wakes_up_well ys ≡ true → wakes_up_well (xs ++ ys) ≡ true
wakes_up-append [] ys a b = b
wakes_up-append (o ∷ []) ys a b = both _ _ (alone (is_wake_up o) (starts_telling ys) (first _ _ a)) b
wakes_up-append (o ∷ x ∷ xs) ys a b = both _ _ (first _ _ a) (wakes_up-append (x ∷ xs) ys (second _ _ a) b)

pub wakes_up-below : (o : Op) (os : List Op) → wakes_up_well (o ∷ os) ≡ true → wakes_up_well os ≡ true
wakes_up-below o os e = second _ _ e

-- below who wakes up somebody tells
pub wakes_up-told : (m : Mark) (o : Op) (os : List Op) → wakes_up_well (o ∷ os) ≡ true → wakes_up_of o ≤ weigh (tells_of m) os
wakes_up-told m o os e = by (is_wake_up o) refl (first _ _ e)
  where
    telling : (x : Op) → is_exchange x ≡ true → 1 ≤ tells_of m x
    telling (Op.Sleeper SleeperOp.ExchangeFlag) q = omega arith
    telling _ q = absurd (cc)

    starts : (xs : List Op) → starts_telling xs ≡ true → 1 ≤ weigh (tells_of m) xs
    starts [] q = absurd (cc)
    starts (x ∷ xs) q = omega (arith, telling x q)

    few : (x : Op) → wakes_up_of x ≤ 1
    few (Op.Tick (TickOp.WakeUp who)) = omega arith
    few _ = omega arith

    nothing : (x : Op) → is_wake_up x ≡ false → wakes_up_of x ≡ 0
    nothing (Op.Tick (TickOp.WakeUp who)) q = absurd (cc)
    nothing _ q = refl

    by : (b : Bool) → is_wake_up o ≡ b → (not b || starts_telling os) ≡ true → wakes_up_of o ≤ weigh (tells_of m) os
    by true q h = omega (arith, few o, starts os h)
    by false q h = omega (arith, nothing o q)

-- who has found something

pub wakes_up-found : (x : Ticker) (who : TickOrRun) (more : List Op) → wakes_up_well more ≡ true →
    wakes_up_well (found_by x who (Op.Sleeper SleeperOp.ExchangeFlag ∷ more)) ≡ true
wakes_up-found Awake who more e = e
wakes_up-found (Asleep n) who more e = e
wakes_up-found Left who more e = e

wakes_up-run_by : (b : Bool) (w : World) (x : RunPoll) (f : ℕ) → wakes_up_well (runs.run_by b w x f).next ≡ true
wakes_up-run_by true w x f = refl
wakes_up-run_by false w x f = refl

wakes_up-counted : (b : Bool) (w : World) (x : RunPoll) (f : ℕ) → wakes_up_well (runs.counted_by b w x f).next ≡ true
wakes_up-counted true w x f = refl
wakes_up-counted false w x f = wakes_up-run_by _ _ x f

pub wakes_up-run : (w : World) (x : RunPoll) (f : ℕ) → wakes_up_well (runs.found w x f).next ≡ true
wakes_up-run w x f =
    wakes_up-append (found_by (run_of w x.run).place (TickOrRun.Run x.run) (Op.Sleeper SleeperOp.ExchangeFlag ∷ []))
    (runs.counted_by (eqb ((run_of w x.run).counted + 1) 64) w x f).next
    (wakes_up-found (run_of w x.run).place (TickOrRun.Run x.run) [] refl) (wakes_up-counted _ w x f)

pub wakes_up-by : (b : Bool) (w : World) (x : RunPoll) (f : ℕ) → wakes_up_well (runs.run_by b w x f).next ≡ true
wakes_up-by = wakes_up-run_by

-- of every stack, the next thing last
abbrev pub WakesUpWell : List Op → Type 0
WakesUpWell os = wakes_up_well (reverse os) ≡ true

pub wakes_up-push : (rest next : List Op) → WakesUpWell rest → wakes_up_well next ≡ true → WakesUpWell (rest ++ reverse next)
wakes_up-push rest next a b =
    ap wakes_up_well (reverse-append rest (reverse next) ∙
    ap (λ (xs : List Op). xs ++ reverse rest) (reverse-reverse next))
    ∙ wakes_up-append next (reverse rest) b a

-- what is below goes on so
pub wakes_up-rest : (rest old : List Op) → WakesUpWell (rest ++ reverse old) → WakesUpWell rest
wakes_up-rest rest old e = drop old (reverse rest)
    (sym (ap wakes_up_well (reverse-append rest (reverse old)
    ∙ ap (λ (xs : List Op). xs ++ reverse rest) (reverse-reverse old))) ∙ e)
  where
    drop : (xs ys : List Op) → wakes_up_well (xs ++ ys) ≡ true → wakes_up_well ys ≡ true
    drop [] ys q = q
    drop (x ∷ xs) ys q = drop xs ys (wakes_up-below x (xs ++ ys) q)

-- beside who wakes up somebody tells
pub wakes_up-old : (m : Mark) (rest : List Op) (o : Op) → WakesUpWell (rest ++ reverse (o ∷ [])) →
    wakes_up_of o ≤ weigh (tells_of m) rest
wakes_up-old m rest o e =
    let q : wakes_up_well (o ∷ reverse rest) ≡ true = ap wakes_up_well (sym (reverse-append rest (o ∷ []))) ∙ e in
    omega (arith, wakes_up-told m o (reverse rest) q, weigh-reverse (tells_of m) rest)

pub wakes_up-set : (ss : List (List Op)) (p : ℕ) (os : List Op) → p < length ss →
    ((q : ℕ) → WakesUpWell (get_or ss q [])) → WakesUpWell os → (q : ℕ) → WakesUpWell (get_or (set ss p os) q [])
wakes_up-set ss p os l h e q = by (eqb q p) refl
  where
    by : (b : Bool) → eqb q p ≡ b → WakesUpWell (get_or (set ss p os) q [])
    by true z = let i : q ≡ p = grind (arith, nat_tests) in
        subst WakesUpWell (sym (ap (λ (k : ℕ). get_or (set ss p os) k []) i ∙ get_or-set_same ss p os [] l)) e
    by false z = let i : q ≢ p = grind (arith, nat_tests) in
        subst WakesUpWell (sym (get_or-set_other ss p q os [] i)) (h q)
