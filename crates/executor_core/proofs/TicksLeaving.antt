-- Some leave one after the other.
use Rattle.std.proofs.Common.{◌≡◌, List, [], ◌∷◌, ◌++◌, map, ap, sym, ◌∙◌}
use Rattle.std.specs.Prelude.{Option, Some, option_to_list}
use Rattle.executor_parts.specs.Sleepers.{flag_of, woken_up}
use Rattle.executor_model.specs.ActsOfSleepers.{given_back}
use Rattle.executor_model.specs.World.{Ticker, Awake, Asleep, Left}
use Rattle.executor_core.specs.declared.ticks.ticker.Ticker.{Ticker as TickerOfCode}
use Rattle.executor_core.specs.FallingAsleep.{gone, all_gone}
use Rattle.executor_core.specs.Ticks.{Flagged, as_ticker}

-- the same sleepers and flag, whatever room was made ahead
abbrev pub Alike : Flagged → Flagged → Type 0
Alike b c = (b.sleepers ≡ c.sleepers) × (b.notified ≡ c.notified)

pub gone-alike : (x : Ticker) (b c : Flagged) → Alike b c → Alike (gone x b) (gone x c)
gone-alike Awake b c h = (ap given_back h.0, h.1)
gone-alike (Asleep n) b c h =
    (ap (λ s. given_back (woken_up n s)) h.0, ap (λ s. flag_of (given_back (woken_up n s))) h.0)
gone-alike Left b c h = h

-- the last of them leaves first
last-gone : (qs : List TickerOfCode) (p : TickerOfCode) (b c : Flagged) → Alike c (gone (as_ticker p) b)
    → Alike (all_gone (map as_ticker qs) c) (all_gone (map as_ticker (qs ++ p ∷ [])) b)
last-gone [] p b c h = h
last-gone (q ∷ qs) p b c h = gone-alike (as_ticker q) _ _ (last-gone qs p b c h)

pub popped : (ps qs : List TickerOfCode) (o : Option TickerOfCode) (p : TickerOfCode) (b c t : Flagged)
    → ps ≡ qs ++ option_to_list o → o ≡ Some p → Alike c (gone (as_ticker p) b)
    → Alike (all_gone (map as_ticker ps) b) t → Alike (all_gone (map as_ticker qs) c) t
popped ps qs o p b c t e some h i =
    let j = last-gone qs p b c h in
    let k = ap (λ r. qs ++ option_to_list r) (sym some) ∙ sym e in (
      j.0 ∙ ap (λ xs. (all_gone (map as_ticker xs) b).sleepers) k ∙ i.0,
      j.1 ∙ ap (λ xs. (all_gone (map as_ticker xs) b).notified) k ∙ i.1,
    )
