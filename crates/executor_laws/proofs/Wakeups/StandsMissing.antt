-- For some_standing_is_called.
-- Where there are fewer entries than ticks and runs that sleep, one that sleeps has none.
use Rattle.std.proofs.Common.{◌≡◌, ◌⊎◌, ◌∙◌, ℕ, zero, suc, ◌+◌, ◌<◌, ◌≤◌, List, [], ◌∷◌, length, get_or, refl, ap, subst, inl}
use Rattle.std.proofs.Common.{inr, ⊎_elim, arith}
use Rattle.executor_model.specs.SleepersAgree.{sleeps, slumbering, runs_asleep}
use Rattle.executor_model.specs.{World.World, World.Ticker, World.Awake, World.Asleep, World.Left, Weights.same, Weights.past}
use Rattle.executor_model.proofs.Sleepers.TickLists.{slumbering-places, places, places-at}
use Rattle.executor_model.proofs.Steps.Lists.{same_is, past_is}
use Rattle.executor_laws.proofs.Wakeups.Listed.{Entry, sum, entry_of}
use Rattle.executor_laws.proofs.{Types.TickOrRun, Wakeups.Sitting.is_it, Wakeups.StandsWorlds.place_here}

one-from : (b x : ℕ) → past b x ≡ past (suc b) x + same b x
one-from b x = grind (arith, past_is, same_is)

one-past : (b x : ℕ) → past b x ≤ 1
one-past b x = grind (arith, past_is)

few-sleeps : (x : Ticker) → sleeps x ≤ 1
few-sleeps Awake = omega arith
few-sleeps Left = omega arith
few-sleeps (Asleep n) = omega arith

zero-or : (n : ℕ) → (n ≡ 0) ⊎ (1 ≤ n)
zero-or zero = inl refl
zero-or (suc n) = inr (omega arith)

-- of ticks or runs: entries of those that are no number below this one, and of this one
module _ (from here : ℕ → Entry → ℕ) (one : (b : ℕ) (e : Entry) → from b e ≡ from (suc b) e + here b e) where
  sum-from : (b : ℕ) (es : List Entry) → sum (from b) es ≡ sum (from (suc b)) es + sum (here b) es
  sum-from b [] = refl
  sum-from b (e ∷ es) = omega (arith, one b e, sum-from b es)

  record Lacking (b : ℕ) (ts : List Ticker) (es : List Entry) : Type 0 where
    pub place : ℕ
    pub sleeps : 1 ≤ sleeps (get_or ts place Left)
    pub none : sum (here (b + place)) es ≡ 0

  lacking : (b : ℕ) (ts : List Ticker) (es : List Entry) → sum (from b) es < slumbering ts → Lacking b ts es
  lacking b [] es h = absurd (omega (arith, h))
  lacking b (x ∷ ts) es h = by (zero-or (sleeps x)) (zero-or (sum (here b) es)) (lacking (suc b) ts es)
    where
      later : Lacking (suc b) ts es → Lacking b (x ∷ ts) es
      later m = record {
        place = suc m.place;
        sleeps = m.sleeps;
        none = ap (λ (n : ℕ). sum (here n) es)
            (let z : b + suc m.place ≡ suc b + m.place = omega arith in z) ∙ m.none;
      }

      by : (sleeps x ≡ 0) ⊎ (1 ≤ sleeps x) → (sum (here b) es ≡ 0) ⊎ (1 ≤ sum (here b) es) →
          (sum (from (suc b)) es < slumbering ts → Lacking (suc b) ts es) → Lacking b (x ∷ ts) es
      by (inl z) y k = later (k (omega (arith, h, z, sum-from b es)))
      by (inr z) (inr y) k = later (k (omega (arith, h, few-sleeps x, y, sum-from b es)))
      by (inr z) (inl y) k =
          record {
            place = 0;
            sleeps = z;
            none = ap (λ (n : ℕ). sum (here n) es) (let q : b + 0 ≡ b = omega arith in q) ∙ y;
          }

abbrev tick_past : ℕ → TickOrRun → ℕ
tick_past b (TickOrRun.Tick t) = past b t
tick_past b (TickOrRun.Run r) = 0

abbrev run_past : ℕ → TickOrRun → ℕ
run_past b (TickOrRun.Tick t) = 0
run_past b (TickOrRun.Run r) = past b r

abbrev tick_from : ℕ → Entry → ℕ
tick_from b e = tick_past b e.1.who

abbrev run_from : ℕ → Entry → ℕ
run_from b e = run_past b e.1.who

abbrev tick_here : ℕ → Entry → ℕ
tick_here b e = entry_of (TickOrRun.Tick b) e

abbrev run_here : ℕ → Entry → ℕ
run_here b e = entry_of (TickOrRun.Run b) e

one-tick : (b : ℕ) (u : TickOrRun) → tick_past b u ≡ tick_past (suc b) u + is_it (TickOrRun.Tick b) u
one-tick b (TickOrRun.Tick t) = one-from b t
one-tick b (TickOrRun.Run r) = refl

one-run : (b : ℕ) (u : TickOrRun) → run_past b u ≡ run_past (suc b) u + is_it (TickOrRun.Run b) u
one-run b (TickOrRun.Tick t) = refl
one-run b (TickOrRun.Run r) = one-from b r

few-one : (u : TickOrRun) → tick_past 0 u + run_past 0 u ≤ 1
few-one (TickOrRun.Tick t) = omega (arith, one-past 0 t)
few-one (TickOrRun.Run r) = omega (arith, one-past 0 r)

few-from : (es : List Entry) → sum (tick_from 0) es + sum (run_from 0) es ≤ length es
few-from [] = omega arith
few-from (e ∷ es) = omega (arith, few-one e.1.who, few-from es)

pub record Missing (w : World) : Type 0 where
  pub who : TickOrRun
  pub sleeps : 1 ≤ sleeps (place_here w who)
  pub none : sum (entry_of who) w.sleepers.wakers ≡ 0

decide : (n m : ℕ) → (n < m) ⊎ (m ≤ n)
decide n zero = inr (omega arith)
decide zero (suc m) = inl (omega arith)
decide (suc n) (suc m) = ⊎_elim (λ (x : n < m). inl (omega (arith, x))) (λ (x : m ≤ n). inr (omega (arith, x)))
    (decide n m)

pub missing : (w : World) → length w.sleepers.wakers < slumbering w.ticks + runs_asleep w.runs → Missing w
missing w h = by (decide (sum (tick_from 0) w.sleepers.wakers) (slumbering w.ticks))
  where
    by : (sum (tick_from 0) w.sleepers.wakers < slumbering w.ticks) ⊎ (slumbering w.ticks ≤ sum (tick_from 0) w.sleepers.wakers) →
        Missing w
    by (inl x) = let m : Lacking tick_from tick_here (λ b e. one-tick b e.1.who) 0 w.ticks w.sleepers.wakers =
        lacking tick_from tick_here (λ b e. one-tick b e.1.who) 0 w.ticks w.sleepers.wakers x in record {
          who = TickOrRun.Tick m.place;
          sleeps = m.sleeps;
          none = ap (λ (n : ℕ). sum (tick_here n) w.sleepers.wakers)
              (let z : m.place ≡ 0 + m.place = omega arith in z) ∙ m.none;
        }
    by (inr x) = let m : Lacking run_from run_here (λ b e. one-run b e.1.who) 0 (places w.runs) w.sleepers.wakers =
        lacking run_from run_here (λ b e. one-run b e.1.who) 0 (places w.runs) w.sleepers.wakers
        (omega (arith, x, h, few-from w.sleepers.wakers, slumbering-places w.runs)) in record {
          who = TickOrRun.Run m.place;
          sleeps = subst (λ (p : Ticker). 1 ≤ sleeps p) (places-at w.runs m.place) m.sleeps;
          none = ap (λ (n : ℕ). sum (run_here n) w.sleepers.wakers)
              (let z : m.place ≡ 0 + m.place = omega arith in z) ∙ m.none;
        }

slumbering-at : (ts : List Ticker) (t : ℕ) → sleeps (get_or ts t Left) ≤ slumbering ts
slumbering-at [] zero = omega arith
slumbering-at [] (suc t) = omega arith
slumbering-at (x ∷ ts) zero = omega arith
slumbering-at (x ∷ ts) (suc t) = omega (arith, slumbering-at ts t)

-- who sleeps is counted
pub slumbering-here : (w : World) (who : TickOrRun) → sleeps (place_here w who) ≤ slumbering w.ticks + runs_asleep w.runs
slumbering-here w (TickOrRun.Tick t) = omega (arith, slumbering-at w.ticks t)
slumbering-here w (TickOrRun.Run r) =
    omega (arith, slumbering-at (places w.runs) r, ap sleeps (places-at w.runs r), slumbering-places w.runs)
