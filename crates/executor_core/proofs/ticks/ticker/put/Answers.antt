use Rattle.std.proofs.Common.{◌∙◌}
use Rattle.std.proofs.lemmas.List.{map-set}
use Rattle.executor_core.specs.Ticks.{as_ticker}
use Rattle.executor_core.proofs.ticks.ticker.put.Goals as goal

pub returns-clause-put : goal.returns-clause-put
returns-clause-put c = map-set as_ticker c.args.places.now.items c.args.at _ ∙ cc
