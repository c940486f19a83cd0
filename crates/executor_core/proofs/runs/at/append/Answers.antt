use Rattle.std.proofs.Common.{ℕ, ltb, List, [], ◌∷◌, ◌++◌, get_or, length, ap, sym, ◌∙◌, map, refl, arith}
use Rattle.executor_core.specs.declared.runs.run.Run.{Run}
use Rattle.executor_core.specs.Runs.{as_run}
use Rattle.executor_core.proofs.Lists.{read, same, written}
use Rattle.executor_core.proofs.runs.at.append.Goals as goal

abbrev own_of : Run → List ℕ
own_of x = x.own

pub returns-clause-free : goal.returns-clause-free
returns-clause-free c =
    let x = c.index_mut-run.result.now in
    c.append.ensures.free ∙ ap (λ (q : List ℕ). ltb (length q) 512)
    (sym (read own_of c.args.runs.now.items c.args.at x [] (omega (arith, c.requires)) c.index_mut-run.ensures.value))

pub returns-clause-kept : goal.returns-clause-kept
returns-clause-kept c = λ e.
    let xs = c.args.runs.now.items in
    let x = c.index_mut-run.result.now in
    written own_of xs c.args.at (record x { own = c.append.new.self }) (get_or (map own_of xs) c.args.at [] ++ c.args.f ∷ [])
    (c.append.ensures.kept e ∙ ap (λ (q : List ℕ). q ++ c.args.f ∷ [])
    (sym (read own_of xs c.args.at x [] (omega (arith, c.requires)) c.index_mut-run.ensures.value)))

pub returns-clause-same : goal.returns-clause-same
returns-clause-same c = λ e.
    let x = c.index_mut-run.result.now in
    same own_of c.args.runs.now.items c.args.at x (record x { own = c.append.new.self }) c.index_mut-run.ensures.value
    (c.append.ensures.same e)

pub returns-clause-runs : goal.returns-clause-runs
returns-clause-runs c =
    let x = c.index_mut-run.result.now in
    same as_run c.args.runs.now.items c.args.at x (record x { own = c.append.new.self }) c.index_mut-run.ensures.value refl
