use Rattle.std.proofs.Common.{◌∙◌, ap, set, map}
use Rattle.std.proofs.lemmas.List.{map-set}
use Rattle.executor_core.specs.Ticks.{as_ticker}
use Rattle.executor_core.proofs.ticks.ticker.take.Goals as goal

pub returns-clause-left : goal.returns-clause-left
returns-clause-left c = map-set as_ticker c.args.places.now.items c.args.at _
    ∙ ap (λ x. set (map as_ticker c.args.places.now.items) c.args.at (as_ticker x)) c.replace.ensures.after
