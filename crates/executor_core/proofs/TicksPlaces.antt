-- Lists of places.
use Rattle.std.proofs.Common.{◌≡◌, List, [], ◌∷◌, map, ◌||◌, refl, ap}
use Rattle.std.specs.List.{list_any}
use Rattle.executor_model.specs.Steps.{lives}
use Rattle.executor_core.specs.declared.ticks.ticker.Ticker.{Ticker}
use Rattle.executor_core.specs.Ticks.{as_ticker}

pub any_mapped : (ps : List Ticker) → list_any lives (map as_ticker ps) ≡ list_any (λ x. lives (as_ticker x)) ps
any_mapped [] = refl
any_mapped (x ∷ ps) = ap (λ b. lives (as_ticker x) || b) (any_mapped ps)
