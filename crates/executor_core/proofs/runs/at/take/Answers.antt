use Rattle.std.proofs.Common.{◌≡◌, ℕ, List, [], ◌∷◌, get_or, ap, sym, ◌∙◌, set, map, refl, arith}
use Rattle.executor_core.specs.declared.runs.run.Run.{Run}
use Rattle.executor_core.specs.Runs.{as_run}
use Rattle.executor_core.proofs.Lists.{length-mapped, read, read-written, same, where-none, where-some, written}
use Rattle.executor_core.proofs.runs.at.take.Goals as goal

abbrev own_of : Run → List ℕ
own_of x = x.own

pub returns-clause-none : goal.returns-clause-none
returns-clause-none c =
    let xs = c.args.runs.now.items in
    let x = c.index_mut-run.result.now in
    let y : Run = record x { own = c.take.new.self } in
    where-none c.take.result
    ((x.own ≡ []) × (c.take.new.self ≡ []))
    ((get_or (map own_of xs) c.args.at [] ≡ []) × (map own_of (set xs c.args.at y) ≡ map own_of xs))
    (λ h. (
      read own_of xs c.args.at x [] (omega (arith, c.requires)) c.index_mut-run.ensures.value ∙ h.0,
      same own_of xs c.args.at x y c.index_mut-run.ensures.value (h.1 ∙ sym h.0),
    )) c.take.ensures.none

pub returns-clause-some : goal.returns-clause-some
returns-clause-some c =
    let xs = c.args.runs.now.items in
    let x = c.index_mut-run.result.now in
    let y : Run = record x { own = c.take.new.self } in
    let w : map own_of (set xs c.args.at y) ≡ set (map own_of xs) c.args.at c.take.new.self =
    written own_of xs c.args.at y c.take.new.self refl in
    let n : get_or (map own_of (set xs c.args.at y)) c.args.at [] ≡ c.take.new.self =
    ap (λ (l : List (List ℕ)). get_or l c.args.at []) w
    ∙ read-written (map own_of xs) c.args.at c.take.new.self [] (omega (arith, c.requires, length-mapped own_of xs)) in
    where-some c.take.result
    (λ f. x.own ≡ f ∷ c.take.new.self)
    (λ f. get_or (map own_of xs) c.args.at [] ≡ f ∷ get_or (map own_of (set xs c.args.at y)) c.args.at [])
    (λ f h. read own_of xs c.args.at x [] (omega (arith, c.requires)) c.index_mut-run.ensures.value ∙ h
    ∙ ap (λ (q : List ℕ). f ∷ q) (sym n)) c.take.ensures.some

pub returns-clause-own : goal.returns-clause-own
returns-clause-own c =
    let xs = c.args.runs.now.items in
    let x = c.index_mut-run.result.now in
    let w = written own_of xs c.args.at (record x { own = c.take.new.self }) c.take.new.self refl in
    w ∙ ap (λ (q : List ℕ). set (map own_of xs) c.args.at q)
    (sym (ap (λ (l : List (List ℕ)). get_or l c.args.at []) w
    ∙ read-written (map own_of xs) c.args.at c.take.new.self [] (omega (arith, c.requires, length-mapped own_of xs))))

pub returns-clause-runs : goal.returns-clause-runs
returns-clause-runs c =
    let x = c.index_mut-run.result.now in
    same as_run c.args.runs.now.items c.args.at x (record x { own = c.take.new.self }) c.index_mut-run.ensures.value refl
