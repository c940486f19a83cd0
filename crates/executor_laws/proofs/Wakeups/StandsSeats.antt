-- For some_standing_is_called.
-- Where each tick and run is, once one of them falls asleep, wakes up, leaves or is made.
use Rattle.std.proofs.Common.{◌≡◌, ◌≢◌, ◌∙◌, ℕ, zero, suc, ◌<◌, List, [], ◌∷◌, length, get_or, set, Bool, true, refl, sym, ap}
use Rattle.std.proofs.Common.{arith, get_or-set_same, get_or-set_other}
use Rattle.std.{proofs.Math.ListN.length-set, specs.Prelude.not, specs.Prelude.nat_lt}
use Rattle.executor_laws.proofs.Types.{TickOrRun}
use Rattle.executor_model.specs.Steps.{lives}
use Rattle.executor_model.specs.World.{World, Ticker, Awake, Asleep, Left, Run, no_run, put_place, put_run, run_of}
use Rattle.executor_model.proofs.OwnQueues.UsingWorlds.{count-set, is_over_stage}
use Rattle.executor_model.proofs.Sleepers.TickLists.{is_tick}
use Rattle.executor_laws.proofs.Wakeups.Sitting.{lives_in, made_in, over_in, place_in}

-- it is where it was, lives as it did, and was made and is over as before
pub record Seated (who : TickOrRun) (w v : World) : Type 0 where
  pub place : place_in who v.ticks v.runs ≡ place_in who w.ticks w.runs
  pub lives : lives_in who v.ticks v.runs ≡ lives_in who w.ticks w.runs
  pub made : made_in who v.ticks v.runs ≡ made_in who w.ticks w.runs
  pub over : over_in who v.runs ≡ over_in who w.runs

-- what of a run stays where one of the list is replaced that has the same
pub field-set : {X : Type 0} (field : Run → X) (rs : List Run) (q : ℕ) (y : Run) →
    field y ≡ field (get_or rs q no_run) → (r : ℕ) →
    field (get_or (set rs q y) r no_run) ≡ field (get_or rs r no_run)
field-set field [] q y e r = refl
field-set field (x ∷ rs) zero y e zero = e
field-set field (x ∷ rs) zero y e (suc r) = refl
field-set field (x ∷ rs) (suc q) y e zero = refl
field-set field (x ∷ rs) (suc q) y e (suc r) = field-set field rs q y e r

-- a run is replaced by one that is where it was, lives as it did and is over as it was
pub seated-run : (who : TickOrRun) (w : World) (q : ℕ) (y : Run) → y.place ≡ (run_of w q).place →
    y.dropped ≡ (run_of w q).dropped → is_over_stage y.stage ≡ is_over_stage (run_of w q).stage →
    Seated who w (put_run w q y)
seated-run (TickOrRun.Tick t) w q y a b c = record { place = refl; lives = refl; made = refl; over = refl }
seated-run (TickOrRun.Run r) w q y a b c = record {
  place = field-set (λ (x : Run). x.place) w.runs q y a r;
  lives = ap (λ (d : Bool). not d) (field-set (λ (x : Run). x.dropped) w.runs q y b r);
  made = ap (nat_lt r) (count-set w.runs q y);
  over = field-set (λ (x : Run). is_over_stage x.stage) w.runs q y c r;
}

pub seated-same : (who : TickOrRun) (w v : World) → v.ticks ≡ w.ticks → v.runs ≡ w.runs → Seated who w v
seated-same who w v a b = record {
  place = λ i. place_in who (a i) (b i);
  lives = λ i. lives_in who (a i) (b i);
  made = λ i. made_in who (a i) (b i);
  over = λ i. over_in who (b i);
}

pub seated-and : (who : TickOrRun) (w v u : World) → Seated who w v → Seated who v u → Seated who w u
seated-and who w v u a b = record {
  place = b.place ∙ a.place;
  lives = b.lives ∙ a.lives;
  made = b.made ∙ a.made;
  over = b.over ∙ a.over;
}

-- another than this is put elsewhere

tick-other : (t u : ℕ) → (let s : TickOrRun = TickOrRun.Tick t in s) ≢ TickOrRun.Tick u → t ≢ u
tick-other t u n e = n (ap (λ (k : ℕ). TickOrRun.Tick k) e)

run-other : (t u : ℕ) → (let s : TickOrRun = TickOrRun.Run t in s) ≢ TickOrRun.Run u → t ≢ u
run-other t u n e = n (ap (λ (k : ℕ). TickOrRun.Run k) e)

pub seated-other : (who u : TickOrRun) (w : World) (x : Ticker) → who ≢ u → Seated who w (put_place w u x)
seated-other (TickOrRun.Tick t) (TickOrRun.Tick u) w x n =
    let e : get_or (set w.ticks u x) t Left ≡ get_or w.ticks t Left =
    get_or-set_other w.ticks u t x Left (tick-other t u n) in record {
      place = e;
      lives = ap lives e;
      made = ap (nat_lt t) (length-set w.ticks u x);
      over = refl;
    }
seated-other (TickOrRun.Tick t) (TickOrRun.Run q) w x n = record { place = refl; lives = refl; made = refl; over = refl }
seated-other (TickOrRun.Run r) (TickOrRun.Tick u) w x n = record { place = refl; lives = refl; made = refl; over = refl }
seated-other (TickOrRun.Run r) (TickOrRun.Run q) w x n =
    let y : Run = record (run_of w q) { place = x } in
    let e : get_or (set w.runs q y) r no_run ≡ get_or w.runs r no_run =
    get_or-set_other w.runs q r y no_run (run-other r q n) in record {
      place = ap (λ (z : Run). z.place) e;
      lives = ap (λ (z : Run). not z.dropped) e;
      made = ap (nat_lt r) (length-set w.runs q y);
      over = ap (λ (z : Run). is_over_stage z.stage) e;
    }

-- this one is put elsewhere

is_run : (rs : List Run) (r : ℕ) → (get_or rs r no_run).place ≢ Left → r < length rs
is_run [] r h = absurd (h refl)
is_run (y ∷ rs) zero h = omega arith
is_run (y ∷ rs) (suc r) h = omega (arith, is_run rs r h)

pub put-place : (who : TickOrRun) (w : World) (x : Ticker) → place_in who w.ticks w.runs ≢ Left →
    place_in who (put_place w who x).ticks (put_place w who x).runs ≡ x
put-place (TickOrRun.Tick t) w x h = get_or-set_same w.ticks t x Left (is_tick w.ticks t h)
put-place (TickOrRun.Run r) w x h = ap (λ (z : Run). z.place)
    (get_or-set_same w.runs r (record (run_of w r) { place = x }) no_run (is_run w.runs r h))

pub put-made : (who : TickOrRun) (w : World) (x : Ticker) →
    made_in who (put_place w who x).ticks (put_place w who x).runs ≡ made_in who w.ticks w.runs
put-made (TickOrRun.Tick t) w x = ap (nat_lt t) (length-set w.ticks t x)
put-made (TickOrRun.Run r) w x = ap (nat_lt r) (length-set w.runs r _)

pub put-over : (who : TickOrRun) (w : World) (x : Ticker) → over_in who (put_place w who x).runs ≡ over_in who w.runs
put-over (TickOrRun.Tick t) w x = refl
put-over (TickOrRun.Run r) w x = field-set (λ (z : Run). is_over_stage z.stage) w.runs r _ refl r

lives-there : (x : Ticker) → x ≢ Left → lives x ≡ true
lives-there Awake h = refl
lives-there (Asleep n) h = refl
lives-there Left h = absurd (h refl)

pub put-lives : (who : TickOrRun) (w : World) (x : Ticker) → x ≢ Left → place_in who w.ticks w.runs ≢ Left →
    lives_in who (put_place w who x).ticks (put_place w who x).runs ≡ lives_in who w.ticks w.runs
put-lives (TickOrRun.Tick t) w x n h =
    ap lives (get_or-set_same w.ticks t x Left (is_tick w.ticks t h)) ∙ (lives-there x n ∙ sym (lives-there _ h))
put-lives (TickOrRun.Run r) w x n h = ap (λ (d : Bool). not d) (field-set (λ (z : Run). z.dropped) w.runs r _ refl r)

pub up-apart : (x : Ticker) → x ≡ Awake → x ≢ Left
up-apart x e q = let no : Awake ≡ Left = sym e ∙ q in absurd (cc)

pub sleeps-apart : (x : Ticker) (n : ℕ) → x ≡ Asleep n → x ≢ Left
sleeps-apart x n e q = let no : Asleep n ≡ Left = sym e ∙ q in absurd (cc)
