use Rattle.std.proofs.Common.{Bool, ap, sym, ◌∙◌, subst}
use Rattle.executor_model.specs.ActsOfRuns.{put_refused, steal_by, steal_put_by}
use Rattle.executor_model.specs.World.{World, Done}
use Rattle.executor_core.specs.Running.{Running}
use Rattle.executor_core.specs.Views.{world_of, Does}
use Rattle.executor_core.proofs.Listing.{kept}
use Rattle.executor_core.proofs.Stealing.{with_runs}
use Rattle.executor_core.proofs.act.steal.put.Goals as goal

pub returns-then-kept : goal.returns-then-kept
returns-then-kept c =
    let s = c.args.store.now in
    let x = c.args.s in
    let f = c.args.f in
    subst (λ (d : Done). Does d c.go_on.new.store c.args.todo.now.items c.go_on.new.todo.items)
    (ap (λ (v : World). steal_by c.args.more v x)
    (kept s x.poll.run c.append-kept.new.self c.push_reserved.new.self c.args.party f
    (c.append-kept.ensures.kept c.if-kept.true) c.push_reserved.ensures.items)
    ∙ ap (λ (b : Bool). steal_put_by b c.args.party (world_of s) x c.args.more f)
    (sym c.if-kept.true ∙ c.append-kept.ensures.free))
    c.go_on.ensures

pub returns-else-kept : goal.returns-else-kept
returns-else-kept c =
    let s = c.args.store.now in
    let x = c.args.s in
    let f = c.args.f in
    subst (λ (e : Done). Does e c.put_refused.new.store c.args.todo.now.items c.put_refused.new.todo.items)
    (ap (λ (v : Running). put_refused x.then (world_of (with_runs s v)) x.poll f) (c.append-kept.ensures.same c.if-kept.false)
    ∙ ap (λ (b : Bool). steal_put_by b c.args.party (world_of s) x c.args.more f)
    (sym c.if-kept.false ∙ c.append-kept.ensures.free))
    c.put_refused.ensures
