use Rattle.std.proofs.Common.{ap, sym, ◌∙◌, set, map, refl, true, arith}
use Rattle.executor_model.specs.World.{Run, no_run}
use Rattle.executor_core.specs.Runs.{as_run}
use Rattle.executor_core.proofs.Lists.{read, same, written}
use Rattle.executor_core.proofs.runs.at.begin_drop.Goals as goal

pub returns-clause-runs : goal.returns-clause-runs
returns-clause-runs c =
    let xs = c.args.runs.now.items in
    let x = c.index_mut-run.result.now in
    written as_run xs c.args.at (record x { dropped = true }) (record (as_run x) { dropped = true }) refl
    ∙ ap (λ (y : Run). set (map as_run xs) c.args.at (record y { dropped = true }))
    (sym (read as_run xs c.args.at x no_run (omega (arith, c.requires)) c.index_mut-run.ensures.value))

pub returns-clause-own : goal.returns-clause-own
returns-clause-own c =
    let x = c.index_mut-run.result.now in
    same (λ y. y.own) c.args.runs.now.items c.args.at x (record x { dropped = true }) c.index_mut-run.ensures.value refl
