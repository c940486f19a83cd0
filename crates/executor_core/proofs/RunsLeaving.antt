-- Runs leave one after the other.
use Rattle.std.proofs.Common.{◌≡◌, List, [], ◌∷◌, ◌++◌, map, ap, sym, ◌∙◌}
use Rattle.std.specs.Prelude.{Option, Some, option_to_list}
use Rattle.executor_model.specs.World.{Ticker}
use Rattle.executor_core.specs.FallingAsleep.{gone, all_gone}
use Rattle.executor_core.specs.Ticks.{Flagged, as_ticker}
use Rattle.executor_core.proofs.TicksLeaving.{Alike, gone-alike}
use Rattle.executor_core.specs.declared.runs.run.Run.{Run as RunOfCode}
use Rattle.executor_core.specs.Runs.{as_run}

abbrev pub places_of : List RunOfCode → List Ticker
places_of xs = map (λ x. x.place) (map as_run xs)

-- the last of them leaves first
last-gone : (qs : List RunOfCode) (p : RunOfCode) (b c : Flagged) → Alike c (gone (as_ticker p.place) b)
    → Alike (all_gone (places_of qs) c) (all_gone (places_of (qs ++ p ∷ [])) b)
last-gone [] p b c h = h
last-gone (q ∷ qs) p b c h = gone-alike (as_ticker q.place) _ _ (last-gone qs p b c h)

pub popped : (xs qs : List RunOfCode) (o : Option RunOfCode) (p : RunOfCode) (b c t : Flagged)
    → xs ≡ qs ++ option_to_list o → o ≡ Some p → Alike c (gone (as_ticker p.place) b)
    → Alike (all_gone (places_of xs) b) t → Alike (all_gone (places_of qs) c) t
popped xs qs o p b c t e some h i =
    let j = last-gone qs p b c h in
    let k = ap (λ r. qs ++ option_to_list r) (sym some) ∙ sym e in (
      j.0 ∙ ap (λ ys. (all_gone (places_of ys) b).sleepers) k ∙ i.0,
      j.1 ∙ ap (λ ys. (all_gone (places_of ys) b).notified) k ∙ i.1,
    )
