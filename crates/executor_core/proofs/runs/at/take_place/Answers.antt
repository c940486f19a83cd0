use Rattle.std.proofs.Common.{ap, sym, ◌∙◌, set, map, refl, arith}
use Rattle.executor_model.specs.World.{Run, Left, no_run}
use Rattle.executor_core.specs.declared.ticks.ticker.Ticker.{Ticker as TickerOfCode}
use Rattle.executor_core.specs.Ticks.{as_ticker}
use Rattle.executor_core.specs.Runs.{as_run}
use Rattle.executor_core.proofs.Lists.{read, same, written}
use Rattle.executor_core.proofs.runs.at.take_place.Goals as goal

pub returns-clause-taken : goal.returns-clause-taken
returns-clause-taken c =
    let x = c.index_mut-run.result.now in
    ap as_ticker c.replace.ensures.value ∙ ap (λ (y : Run). y.place)
    (sym (read as_run c.args.runs.now.items c.args.at x no_run (omega (arith, c.requires)) c.index_mut-run.ensures.value))

pub returns-clause-runs : goal.returns-clause-runs
returns-clause-runs c =
    let xs = c.args.runs.now.items in
    let x = c.index_mut-run.result.now in
    written as_run xs c.args.at _ (record (as_run x) { place = Left })
    (ap (λ (k : TickerOfCode). let y : Run = record (as_run x) { place = as_ticker k } in y) c.replace.ensures.after)
    ∙ ap (λ (y : Run). set (map as_run xs) c.args.at (record y { place = Left }))
    (sym (read as_run xs c.args.at x no_run (omega (arith, c.requires)) c.index_mut-run.ensures.value))

pub returns-clause-own : goal.returns-clause-own
returns-clause-own c =
    let x = c.index_mut-run.result.now in
    same (λ y. y.own) c.args.runs.now.items c.args.at x _ c.index_mut-run.ensures.value refl
