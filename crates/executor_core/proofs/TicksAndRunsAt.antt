-- A tick or run that was taken out of its place and is put into another.
use Rattle.std.proofs.Common.{◌≡◌, ℕ, zero, suc, List, [], ◌∷◌, get_or, set, refl, sym, ap, ◌∙◌}
use Rattle.std.proofs.lemmas.List.{set-set}
use Rattle.executor_model.specs.declared.op.TickOrRun.{TickOrRun}
use Rattle.executor_model.specs.declared.op.TickOrRun.TheVariants as tick_or_run
use Rattle.executor_model.specs.World.{Ticker, Left, Run, no_run, runs_with, ticks_with}
use Rattle.executor_core.specs.Ticks.{Ticked, place_in}
use Rattle.executor_core.specs.TicksAndRuns.{where_is}
use Rattle.executor_core.specs.Running.{Running, placed, run_in}

abbrev ticks_at : Ticked → List Ticker → Ticked
ticks_at ts places = record ts { places = places }

abbrev runs_at : Running → List Run → Running
runs_at rs runs = record rs { runs = runs }

twice : (l : List Run) (r : ℕ) (k : Ticker)
    → set (set l r (record (get_or l r no_run) { place = Left })) r
    (record (get_or (set l r (record (get_or l r no_run) { place = Left })) r no_run) { place = k })
    ≡ set l r (record (get_or l r no_run) { place = k })
twice [] r k = refl
twice (x ∷ l) zero k = refl
twice (x ∷ l) (suc r) k = ap (λ (m : List Run). x ∷ m) (twice l r k)

module _ (ts : Ticked) (rs : Running) (who : TickOrRun) (go : Ticker → Ticker) (from to : Ticker) where
  pub put-tick : (t : ℕ) (a b : Ticked) → who ≡ tick_or_run.Tick t → a ≡ ticks_at ts (set ts.places t Left) →
      from ≡ place_in ts t → to ≡ go from → b ≡ ticks_at a (set a.places t to) →
      b ≡ ticks_at ts (ticks_with ts.places who (go (where_is ts rs who)))
  put-tick t a b w left taken e put =
      put ∙ (ap (λ (x : Ticked). ticks_at x (set x.places t to)) left
      ∙ (ap (ticks_at ts) (set-set ts.places t Left to)
      ∙ (ap (λ (k : Ticker). ticks_at ts (set ts.places t k)) (e ∙ ap go taken)
      ∙ ap (λ (x : TickOrRun). ticks_at ts (ticks_with ts.places x (go (where_is ts rs x)))) (sym w))))

  pub put-run : (r : ℕ) (a b : Running) → who ≡ tick_or_run.Run r → a ≡ placed r Left rs →
      from ≡ (run_in rs r).place → to ≡ go from → b ≡ placed r to a →
      b ≡ runs_at rs (runs_with rs.runs who (go (where_is ts rs who)))
  put-run r a b w left taken e put =
      put ∙ (ap (placed r to) left
      ∙ (ap (runs_at rs) (twice rs.runs r to)
      ∙ (ap (λ (k : Ticker). placed r k rs) (e ∙ ap go taken)
      ∙ ap (λ (x : TickOrRun). runs_at rs (runs_with rs.runs x (go (where_is ts rs x)))) (sym w))))
