use Rattle.std.proofs.Common.{ℕ, List, ap, sym, ◌∙◌, subst}
use Rattle.executor_model.specs.ActsOfRuns.{found, search_own_by}
use Rattle.executor_model.specs.World.{Done}
use Rattle.executor_core.specs.Running.{Running}
use Rattle.executor_core.specs.Views.{world_of, Does}
use Rattle.executor_core.proofs.Stealing.{with_runs}
use Rattle.executor_core.proofs.search.search_own.Goals as goal

pub returns-in-Some : goal.returns-in-Some
returns-in-Some c =
    let s = c.args.store.now in
    let x = c.args.x in
    subst (λ (d : Done). Does d c.push_found.new.store c.args.todo.now.items c.push_found.new.todo.items)
    (ap (λ (v : Running). found (world_of (with_runs s v)) x c.in-Some.f) c.take.ensures.rest
    ∙ sym (ap (λ (q : List ℕ). search_own_by q (world_of s) x) c.in-Some.ensures.some))
    c.push_found.ensures.does
