-- For sleepers_agree and sleepers_are_told.
-- How many ticks and runs sleep, and under which numbers, where one of them changes.
use Rattle.std.proofs.Common.{◌≡◌, ◌≢◌, ℕ, zero, suc, ◌+◌, ◌<◌, ◌≤◌, List, [], ◌∷◌, ◌++◌, length, get_or, set, Bool, true}
use Rattle.std.proofs.Common.{false, eqb, refl, sym, ap, ◌∙◌, inl, inr, ⊎_elim, subst, arith}
use Rattle.std.proofs.lemmas.Bool.Decides.{nat_tests}
use Rattle.executor_parts.specs.Order.{IsIn, IsApart, without}
use Rattle.executor_model.specs.World.{World, Ticker, Awake, Asleep, Left, Run, no_run, new_run, place_of, ticks_with}
use Rattle.executor_model.specs.SleepersAgree.{sleeps, slumbering, room, rooms_of, rooms_of_runs, runs_asleep}
use Rattle.executor_model.specs.{Sound.times, Weights.same, World.runs_with}
use Rattle.executor_model.proofs.{Types.TickOrRun, Steps.Lists.same_is, Steps.Lists.same_cases}

abbrev pub asleep_at : ℕ → Ticker → ℕ
asleep_at n (Asleep m) = same n m
asleep_at n Awake = 0
asleep_at n Left = 0

-- how many ticks sleep under this number
abbrev pub used : ℕ → List Ticker → ℕ
used n [] = 0
used n (x ∷ xs) = asleep_at n x + used n xs

pub used-set : (n : ℕ) (ts : List Ticker) (t : ℕ) (x : Ticker) → t < length ts →
    used n (set ts t x) + asleep_at n (get_or ts t Left) ≡ used n ts + asleep_at n x
used-set n [] t x h = absurd (omega arith)
used-set n (y ∷ ts) zero x h = omega arith
used-set n (y ∷ ts) (suc t) x h = omega (arith, used-set n ts t x (omega arith))

pub slumbering-set : (ts : List Ticker) (t : ℕ) (x : Ticker) → t < length ts →
    slumbering (set ts t x) + sleeps (get_or ts t Left) ≡ slumbering ts + sleeps x
slumbering-set [] t x h = absurd (omega arith)
slumbering-set (y ∷ ts) zero x h = omega arith
slumbering-set (y ∷ ts) (suc t) x h = omega (arith, slumbering-set ts t x (omega arith))

pub rooms-set : (ts : List Ticker) (t : ℕ) (x : Ticker) → t < length ts →
    rooms_of (set ts t x) + room (get_or ts t Left) ≡ rooms_of ts + room x
rooms-set [] t x h = absurd (omega arith)
rooms-set (y ∷ ts) zero x h = omega arith
rooms-set (y ∷ ts) (suc t) x h = omega (arith, rooms-set ts t x (omega arith))

pub used-push : (n : ℕ) (ts : List Ticker) → used n (ts ++ Awake ∷ []) ≡ used n ts
used-push n [] = refl
used-push n (y ∷ ts) = omega (arith, used-push n ts)

pub slumbering-push : (ts : List Ticker) → slumbering (ts ++ Awake ∷ []) ≡ slumbering ts
slumbering-push [] = refl
slumbering-push (y ∷ ts) = omega (arith, slumbering-push ts)

pub rooms-push : (ts : List Ticker) → rooms_of (ts ++ Awake ∷ []) ≡ rooms_of ts + 1
rooms-push [] = omega arith
rooms-push (y ∷ ts) = omega (arith, rooms-push ts)

-- who sleeps has room, and who is awake has room beside
sleeps-room : (x : Ticker) → sleeps x ≤ room x
sleeps-room Awake = omega arith
sleeps-room (Asleep n) = omega arith
sleeps-room Left = omega arith

pub slumbering-rooms : (ts : List Ticker) → slumbering ts ≤ rooms_of ts
slumbering-rooms [] = omega arith
slumbering-rooms (y ∷ ts) = omega (arith, sleeps-room y, slumbering-rooms ts)

up-room : (x : Ticker) → x ≡ Awake → sleeps x + 1 ≡ room x
up-room Awake e = omega arith
up-room (Asleep n) e = absurd (cc)
up-room Left e = absurd (cc)

pub up-rooms : (ts : List Ticker) (t : ℕ) → get_or ts t Left ≡ Awake → slumbering ts < rooms_of ts
up-rooms [] t e = absurd (cc)
up-rooms (y ∷ ts) zero e = omega (arith, up-room y e, slumbering-rooms ts)
up-rooms (y ∷ ts) (suc t) e = omega (arith, sleeps-room y, up-rooms ts t e)

-- a tick that didn't leave is one of the list
pub is_tick : (ts : List Ticker) (t : ℕ) → get_or ts t Left ≢ Left → t < length ts
is_tick [] t h = absurd (h refl)
is_tick (y ∷ ts) zero h = omega arith
is_tick (y ∷ ts) (suc t) h = omega (arith, is_tick ts t h)

pub same_self : (n : ℕ) → same n n ≡ 1
same_self n = grind (arith, same_is)

used-one : (n : ℕ) (x : Ticker) → x ≡ Asleep n → asleep_at n x ≡ 1
used-one n (Asleep m) e = let q : m ≡ n = cc in subst (λ k. same n k ≡ 1) (sym q) (same_self n)
used-one n Awake e = absurd (cc)
used-one n Left e = absurd (cc)

-- who sleeps under the number is counted
pub used-by : (n : ℕ) (ts : List Ticker) (t : ℕ) → get_or ts t Left ≡ Asleep n → 1 ≤ used n ts
used-by n [] t e = absurd (cc)
used-by n (y ∷ ts) zero e = omega (arith, used-one n y e)
used-by n (y ∷ ts) (suc t) e = omega (arith, used-by n ts t e)

-- where two do, they are counted twice
pub used-apart : (n : ℕ) (ts : List Ticker) (t u : ℕ) → used n ts ≤ 1 → get_or ts t Left ≡ Asleep n →
    get_or ts u Left ≡ Asleep n → t ≡ u
used-apart n [] t u h a b = absurd (cc)
used-apart n (y ∷ ts) zero zero h a b = refl
used-apart n (y ∷ ts) zero (suc u) h a b = absurd (omega (arith, h, used-one n y a, used-by n ts u b))
used-apart n (y ∷ ts) (suc t) zero h a b = absurd (omega (arith, h, used-one n y b, used-by n ts t a))
used-apart n (y ∷ ts) (suc t) (suc u) h a b = ap suc (used-apart n ts t u (omega (arith, h)) a b)

-- where the runs are

abbrev pub places : List Run → List Ticker
places [] = []
places (x ∷ xs) = x.place ∷ places xs

pub places-at : (rs : List Run) (r : ℕ) → get_or (places rs) r Left ≡ (get_or rs r no_run).place
places-at [] r = refl
places-at (x ∷ rs) zero = refl
places-at (x ∷ rs) (suc r) = places-at rs r

pub places-set : (rs : List Run) (r : ℕ) (x : Run) → places (set rs r x) ≡ set (places rs) r x.place
places-set [] r x = refl
places-set (y ∷ rs) zero x = refl
places-set (y ∷ rs) (suc r) x = ap (λ (ps : List Ticker). y.place ∷ ps) (places-set rs r x)

-- a run that stays where it is
pub places-same : (rs : List Run) (r : ℕ) (x : Run) → x.place ≡ (get_or rs r no_run).place →
    places (set rs r x) ≡ places rs
places-same [] r x e = refl
places-same (y ∷ rs) zero x e = ap (λ (p : Ticker). p ∷ places rs) e
places-same (y ∷ rs) (suc r) x e = ap (λ (ps : List Ticker). y.place ∷ ps) (places-same rs r x e)

pub places-push : (rs : List Run) → places (rs ++ new_run ∷ []) ≡ places rs ++ Awake ∷ []
places-push [] = refl
places-push (y ∷ rs) = ap (λ (ps : List Ticker). y.place ∷ ps) (places-push rs)

pub slumbering-places : (rs : List Run) → runs_asleep rs ≡ slumbering (places rs)
slumbering-places [] = refl
slumbering-places (y ∷ rs) = omega (arith, slumbering-places rs)

pub rooms-places : (rs : List Run) → rooms_of_runs rs ≡ rooms_of (places rs)
rooms-places [] = refl
rooms-places (y ∷ rs) = omega (arith, rooms-places rs)

-- ticks and runs together, by their places

abbrev pub at_place : List Ticker → List Ticker → TickOrRun → Ticker
at_place ts ps (TickOrRun.Tick t) = get_or ts t Left
at_place ts ps (TickOrRun.Run r) = get_or ps r Left

abbrev pub places_with : List Ticker → TickOrRun → Ticker → List Ticker
places_with ps (TickOrRun.Tick t) x = ps
places_with ps (TickOrRun.Run r) x = set ps r x

pub places-with : (rs : List Run) (who : TickOrRun) (x : Ticker) →
    places (runs_with rs who x) ≡ places_with (places rs) who x
places-with rs (TickOrRun.Tick t) x = refl
places-with rs (TickOrRun.Run r) x = places-set rs r _

pub place-at : (w : World) (who : TickOrRun) → place_of w who ≡ at_place w.ticks (places w.runs) who
place-at w (TickOrRun.Tick t) = refl
place-at w (TickOrRun.Run r) = sym (places-at w.runs r)

-- how many of both sleep under this number, sleep, and have room
abbrev pub used_all : ℕ → List Ticker → List Ticker → ℕ
used_all n ts ps = used n ts + used n ps

abbrev pub all_asleep : List Ticker → List Ticker → ℕ
all_asleep ts ps = slumbering ts + slumbering ps

abbrev pub rooms_all : List Ticker → List Ticker → ℕ
rooms_all ts ps = rooms_of ts + rooms_of ps

pub used_all-set : (n : ℕ) (ts ps : List Ticker) (who : TickOrRun) (x : Ticker) → at_place ts ps who ≢ Left →
    used_all n (ticks_with ts who x) (places_with ps who x) + asleep_at n (at_place ts ps who)
    ≡ used_all n ts ps + asleep_at n x
used_all-set n ts ps (TickOrRun.Tick t) x h = omega (arith, used-set n ts t x (is_tick ts t h))
used_all-set n ts ps (TickOrRun.Run r) x h = omega (arith, used-set n ps r x (is_tick ps r h))

pub all_asleep-set : (ts ps : List Ticker) (who : TickOrRun) (x : Ticker) → at_place ts ps who ≢ Left →
    all_asleep (ticks_with ts who x) (places_with ps who x) + sleeps (at_place ts ps who) ≡ all_asleep ts ps + sleeps x
all_asleep-set ts ps (TickOrRun.Tick t) x h = omega (arith, slumbering-set ts t x (is_tick ts t h))
all_asleep-set ts ps (TickOrRun.Run r) x h = omega (arith, slumbering-set ps r x (is_tick ps r h))

pub rooms_all-set : (ts ps : List Ticker) (who : TickOrRun) (x : Ticker) → at_place ts ps who ≢ Left →
    rooms_all (ticks_with ts who x) (places_with ps who x) + room (at_place ts ps who) ≡ rooms_all ts ps + room x
rooms_all-set ts ps (TickOrRun.Tick t) x h = omega (arith, rooms-set ts t x (is_tick ts t h))
rooms_all-set ts ps (TickOrRun.Run r) x h = omega (arith, rooms-set ps r x (is_tick ps r h))

pub used_all-by : (n : ℕ) (ts ps : List Ticker) (who : TickOrRun) → at_place ts ps who ≡ Asleep n → 1 ≤ used_all n ts ps
used_all-by n ts ps (TickOrRun.Tick t) e = omega (arith, used-by n ts t e)
used_all-by n ts ps (TickOrRun.Run r) e = omega (arith, used-by n ps r e)

pub used_all-apart : (n : ℕ) (ts ps : List Ticker) (t u : TickOrRun) → used_all n ts ps ≤ 1 → at_place ts ps t ≡ Asleep n →
    at_place ts ps u ≡ Asleep n → t ≡ u
used_all-apart n ts ps (TickOrRun.Tick t) (TickOrRun.Tick u) h a b =
    ap (λ (k : ℕ). TickOrRun.Tick k) (used-apart n ts t u (omega (arith, h)) a b)
used_all-apart n ts ps (TickOrRun.Tick t) (TickOrRun.Run u) h a b =
    absurd (omega (arith, h, used-by n ts t a, used-by n ps u b))
used_all-apart n ts ps (TickOrRun.Run t) (TickOrRun.Tick u) h a b =
    absurd (omega (arith, h, used-by n ps t a, used-by n ts u b))
used_all-apart n ts ps (TickOrRun.Run t) (TickOrRun.Run u) h a b =
    ap (λ (k : ℕ). TickOrRun.Run k) (used-apart n ps t u (omega (arith, h)) a b)

pub up_rooms-all : (ts ps : List Ticker) (who : TickOrRun) → at_place ts ps who ≡ Awake → all_asleep ts ps < rooms_all ts ps
up_rooms-all ts ps (TickOrRun.Tick t) e = omega (arith, up-rooms ts t e, slumbering-rooms ps)
up_rooms-all ts ps (TickOrRun.Run r) e = omega (arith, up-rooms ps r e, slumbering-rooms ts)

-- who is awake or sleeps didn't leave
pub up-here : (x : Ticker) → x ≡ Awake → x ≢ Left
up-here x e q = let no : Awake ≡ Left = sym e ∙ q in absurd (cc)

pub sleeps-here : (x : Ticker) (n : ℕ) → x ≡ Asleep n → x ≢ Left
sleeps-here x n e q = let no : Asleep n ≡ Left = sym e ∙ q in absurd (cc)

-- numbers in a list

pub times-in : (n : ℕ) (xs : List ℕ) → 1 ≤ times n xs → IsIn n xs
times-in n [] h = absurd (omega arith)
times-in n (x ∷ xs) h = ⊎_elim
    (λ (z : (same n x ≡ 1) × (eqb n x ≡ true) × (n ≡ x)). inl (sym z.2))
    (λ (z : (same n x ≡ 0) × (eqb n x ≡ false) × (n ≢ x)). inr (times-in n xs (omega (arith, h, z.0))))
    (same_cases n x)

pub times-apart : (n : ℕ) (xs : List ℕ) → IsApart xs → times n xs ≤ 1
times-apart n [] a = omega arith
times-apart n (x ∷ xs) a = ⊎_elim
    (λ (z : (same n x ≡ 1) × (eqb n x ≡ true) × (n ≡ x)).
    omega (arith, z.0, none (times n xs) refl (λ i. a.0 (subst (λ k. IsIn k xs) z.2 (times-in n xs i)))))
    (λ (z : (same n x ≡ 0) × (eqb n x ≡ false) × (n ≢ x)). omega (arith, z.0, times-apart n xs a.1))
    (same_cases n x)
  where
    none : (k : ℕ) → times n xs ≡ k → (1 ≤ times n xs → ⊥) → times n xs ≡ 0
    none zero e f = e
    none (suc k) e f = absurd (f (omega (arith, e)))

pub times-without : (n m : ℕ) (xs : List ℕ) → IsIn m xs → times n (without m xs) + same n m ≡ times n xs
times-without n m [] i = absurd i
times-without n m (x ∷ xs) i = by (eqb m x) refl i (λ j. times-without n m xs j)
  where
    by : (b : Bool) → eqb m x ≡ b → IsIn m (x ∷ xs) → (IsIn m xs → times n (without m xs) + same n m ≡ times n xs) →
        times n (let ys : List ℕ = elim b [ true ↦ xs | false ↦ x ∷ without m xs ] in ys) + same n m ≡ times n (x ∷ xs)
    by true e j r = let q : m ≡ x = grind (arith, nat_tests) in let z : same n m ≡ same n x = ap (same n) q in
        omega (arith, z)
    by false e (inl j) r = let no : m ≢ x = grind (arith, nat_tests) in absurd (no (sym j))
    by false e (inr j) r = omega (arith, r j)
