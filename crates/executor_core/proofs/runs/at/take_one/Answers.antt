use Rattle.std.proofs.Common.{◌+◌, eqb, cond, ap, sym, ◌∙◌, set, map, refl, arith}
use Rattle.executor_model.specs.World.{Run, no_run}
use Rattle.executor_core.specs.Counted.{Counted}
use Rattle.executor_core.specs.Runs.{as_run}
use Rattle.executor_core.proofs.Lists.{read, same, written}
use Rattle.executor_core.proofs.runs.at.take_one.Goals as goal

pub returns-clause-full : goal.returns-clause-full
returns-clause-full c =
    let x = c.index_mut-run.result.now in
    c.take.ensures.full ∙ ap (λ (y : Run). eqb (y.taken + 1) 200)
    (sym (read as_run c.args.runs.now.items c.args.at x no_run (omega (arith, c.requires)) c.index_mut-run.ensures.value))

pub returns-clause-runs : goal.returns-clause-runs
returns-clause-runs c =
    let xs = c.args.runs.now.items in
    let x = c.index_mut-run.result.now in
    written as_run xs c.args.at (record x { counts = c.take.new.self })
    (record (as_run x) { taken = cond c.take.result 0 (x.counts.taken + 1) })
    (ap (λ (k : Counted). let y : Run = record (as_run x) { counted = k.counted; taken = k.taken } in y) c.take.ensures.taken)
    ∙ ap (λ (y : Run). set (map as_run xs) c.args.at (record y { taken = cond c.take.result 0 (y.taken + 1) }))
    (sym (read as_run xs c.args.at x no_run (omega (arith, c.requires)) c.index_mut-run.ensures.value))

pub returns-clause-own : goal.returns-clause-own
returns-clause-own c =
    let x = c.index_mut-run.result.now in
    same (λ y. y.own) c.args.runs.now.items c.args.at x (record x { counts = c.take.new.self })
    c.index_mut-run.ensures.value refl
