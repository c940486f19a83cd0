-- Runs as the plain scheduler has them: one that changes on both sides.
use Rattle.std.proofs.Common.{◌≡◌, ℕ, zero, suc, ◌+◌, ◌<◌, ◌==◌, nat_lt, not, Bool, true, false, List, [], ◌∷◌, length, map, get_or}
use Rattle.std.proofs.Common.{Option, Some, None, slice_get, slice_set, if◌then◌else◌, refl, sym, ap, ◌∙◌, arith}
use Rattle.std.proofs.lemmas.Bool.Decides.{nat_tests}
use Rattle.executor_model.specs.declared.op.TickOrRun.{TickOrRun}
use Rattle.executor_model.specs.declared.op.TickOrRun.TheVariants as tick_or_run
use Rattle.executor_model.specs.declared.op.Waker.{Waker}
use Rattle.executor_model.specs.World.{Run, Ticker, no_run}
use Rattle.plain_scheduler.specs.State.{Plain, Running}
use Rattle.plain_scheduler.specs.Lists.{on, or}
use Rattle.plain_scheduler.specs.Moves as plain
use Rattle.machine_roads.specs.View.{Output}
use Rattle.machine_roads.specs.Road.{counted_anew, place_in, run_view}
use Rattle.machine_roads.proofs.Lists.{cons_is}

-- it is over, and it has taken one more
abbrev pub ended_run : Running → Running
ended_run run = record run { is_over = true }

abbrev pub one_more : Running → Running
one_more run = record run { taken = run.taken + 1 }

abbrev pub changed : (Running → Running) → ℕ → List Running → List Running
changed h r runs = or (slice_get runs r) (λ run. slice_set runs r (h run)) runs

pub changed_rest : (h : Running → Running) (x : Running) (xs : List Running) (r : ℕ) → changed h (suc r) (x ∷ xs) ≡ x ∷ changed h r xs
changed_rest h x xs r = by (slice_get xs r)
  where
    by : (o : Option Running)
        → or o (λ run. slice_set (x ∷ xs) (suc r) (h run)) (x ∷ xs) ≡ x ∷ or o (λ run. slice_set xs r (h run)) xs
    by None = refl
    by (Some y) = refl

pub runs_is : (h : Running → Running) (r : ℕ) (q : Plain Output Waker) → plain.runs h r q ≡ record q { runs = changed h r q.runs }
runs_is h r q = by (slice_get q.runs r)
  where
    by : (o : Option Running)
        → on o (λ run p. record p { runs = slice_set p.runs r (h run) }) q
        ≡ record q { runs = or o (λ run. slice_set q.runs r (h run)) q.runs }
    by None = refl
    by (Some x) = refl

module _ (h : Running → Running) (x : Run) where
  -- where the two of them are alike once they changed, and the others are
  pub changed_alike : (ws : List Run) (qs : List Running) → map run_view ws ≡ map counted_anew qs → (r : ℕ)
      → ((y : Running) → slice_get qs r ≡ Some y → run_view (get_or ws r no_run) ≡ counted_anew y → run_view x ≡ counted_anew (h y))
      → map run_view (slice_set ws r x) ≡ map counted_anew (changed h r qs)
  changed_alike [] [] is r same = refl
  changed_alike [] (y ∷ ys) is r same = absurd cc
  changed_alike (w ∷ ws) [] is r same = absurd cc
  changed_alike (w ∷ ws) (y ∷ ys) is zero same =
      let both = cons_is (run_view w) (counted_anew y) (map run_view ws) (map counted_anew ys) is in
      ap (λ run. run ∷ map run_view ws) (same y refl both.0) ∙ ap (λ runs. counted_anew (h y) ∷ runs) both.1
  changed_alike (w ∷ ws) (y ∷ ys) is (suc r) same =
      let both = cons_is (run_view w) (counted_anew y) (map run_view ws) (map counted_anew ys) is in
      ap (λ runs. run_view w ∷ runs) (changed_alike ws ys both.1 r same)
      ∙ (ap (λ run. run ∷ map counted_anew (changed h r ys)) both.0 ∙ sym (ap (map counted_anew) (changed_rest h y ys r)))

-- one that is over on both sides
pub over_alike : (ws : List Run) (qs : List Running) → map run_view ws ≡ map counted_anew qs → (r : ℕ) (x : Run)
    → x.taken ≡ (get_or ws r no_run).taken → (run_view x).is_over ≡ true
    → map run_view (slice_set ws r x) ≡ map counted_anew (changed ended_run r qs)
over_alike ws qs is r x taken ended =
    changed_alike ended_run x ws qs is r
    (λ y there same. ap (λ b. record (run_view x) { is_over = b }) ended
    ∙ (ap (λ n. record (run_view (get_or ws r no_run)) { taken = n; is_over = true }) taken ∙ ap ended_run same))

unlike : (n : ℕ) → nat_lt n 200 ≡ true → (n == 200) ≡ false
unlike n few = grind (arith, nat_tests)

-- one that has taken one more, before the plain scheduler's 200th
pub counted_alike : (ws : List Run) (qs : List Running) → map run_view ws ≡ map counted_anew qs → (r : ℕ)
    → or (slice_get qs r) (λ run. nat_lt run.taken 200) true ≡ true → (b : Bool) → ((get_or ws r no_run).taken + 1 == 200) ≡ b
    → map run_view (slice_set ws r (record (get_or ws r no_run) { taken = if b then 0 else (get_or ws r no_run).taken + 1 }))
    ≡ map counted_anew (changed one_more r qs)
counted_alike ws qs is r going b last =
    changed_alike one_more (record (get_or ws r no_run) { taken = if b then 0 else (get_or ws r no_run).taken + 1 }) ws qs is r
    (λ y there same.
    let few : nat_lt y.taken 200 ≡ true =
    sym (ap (λ (o : Option Running). or o (λ run. nat_lt run.taken 200) true) there) ∙ going in
    let taken : (get_or ws r no_run).taken ≡ y.taken =
    ap (λ (run : Running). run.taken) same ∙ ap (λ b. if b then 0 else y.taken) (unlike y.taken few) in
    ap (λ b. record (run_view (get_or ws r no_run)) { taken = if b then 0 else (get_or ws r no_run).taken + 1 }) (sym last)
    ∙ (ap (λ k. record (run_view (get_or ws r no_run)) { taken = if k + 1 == 200 then 0 else k + 1 }) taken
    ∙ ap (λ (run : Running). record run { taken = if y.taken + 1 == 200 then 0 else y.taken + 1 }) same))

-- and whether that is the 200th
pub counted_last : (ws : List Run) (qs : List Running) → map run_view ws ≡ map counted_anew qs → (r : ℕ)
    → or (slice_get qs r) (λ run. nat_lt run.taken 200) true ≡ true
    → nat_lt (or (slice_get (changed one_more r qs) r) (λ run. run.taken) 0) 200 ≡ not ((get_or ws r no_run).taken + 1 == 200)
counted_last [] [] is r going = refl
counted_last [] (y ∷ ys) is r going = absurd cc
counted_last (w ∷ ws) [] is r going = absurd cc
counted_last (w ∷ ws) (y ∷ ys) is zero going =
    let both = cons_is (run_view w) (counted_anew y) (map run_view ws) (map counted_anew ys) is in
    let taken : w.taken ≡ y.taken =
    ap (λ (run : Running). run.taken) both.0 ∙ ap (λ b. if b then 0 else y.taken) (unlike y.taken going) in
    next_one y.taken going ∙ ap (λ n. not (n + 1 == 200)) (sym taken)
  where
    next_one : (n : ℕ) → nat_lt n 200 ≡ true → nat_lt (n + 1) 200 ≡ not (n + 1 == 200)
    next_one n few = grind (arith, nat_tests)
counted_last (w ∷ ws) (y ∷ ys) is (suc r) going =
    let both = cons_is (run_view w) (counted_anew y) (map run_view ws) (map counted_anew ys) is in
    ap (λ (runs : List Running). nat_lt (or (slice_get runs (suc r)) (λ run. run.taken) 0) 200) (changed_rest one_more y ys r)
    ∙ counted_last ws ys both.1 r going

-- whether it is over
pub over_is : (ws : List Run) (qs : List Running) → map run_view ws ≡ map counted_anew qs → (r : ℕ)
    → or (slice_get qs r) (λ run. run.is_over) true ≡ (run_view (get_or ws r no_run)).is_over
over_is [] [] is r = refl
over_is [] (y ∷ ys) is r = absurd cc
over_is (w ∷ ws) [] is r = absurd cc
over_is (w ∷ ws) (y ∷ ys) is zero =
    sym (ap (λ (run : Running). run.is_over) (cons_is (run_view w) (counted_anew y) (map run_view ws) (map counted_anew ys) is).0)
over_is (w ∷ ws) (y ∷ ys) is (suc r) =
    over_is ws ys (cons_is (run_view w) (counted_anew y) (map run_view ws) (map counted_anew ys) is).1 r

-- a run that is put again where it was
pub same_place : (ticks : List Ticker) (runs : List Run) (r : ℕ) (y : Run) → y.place ≡ (get_or runs r no_run).place → (x : TickOrRun)
    → place_in ticks (slice_set runs r y) x ≡ place_in ticks runs x
same_place ticks runs r y same (tick_or_run.Tick t) = refl
same_place ticks runs r y same (tick_or_run.Run k) = by runs r k same
  where
    by : (runs : List Run) (r k : ℕ) → y.place ≡ (get_or runs r no_run).place
        → (get_or (slice_set runs r y) k no_run).place ≡ (get_or runs k no_run).place
    by [] r k same = refl
    by (z ∷ zs) zero zero same = same
    by (z ∷ zs) zero (suc k) same = refl
    by (z ∷ zs) (suc r) zero same = refl
    by (z ∷ zs) (suc r) (suc k) same = by zs r k same

-- one that wasn't dropped was made
pub made : (runs : List Run) (r : ℕ) → (get_or runs r no_run).dropped ≡ false → r < length runs
made [] r there = absurd cc
made (x ∷ xs) zero there = omega arith
made (x ∷ xs) (suc r) there = let below = made xs r there in omega (arith, below)
