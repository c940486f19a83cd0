use Rattle.std.proofs.Common.{ℕ, ap, ◌∙◌, subst}
use Rattle.executor_model.specs.ActsOfRuns.{share, steal_by}
use Rattle.executor_core.specs.Views.{world_of, Does}
use Rattle.executor_core.proofs.act.steal.own_length.Goals as goal

pub returns : goal.returns
returns c =
    subst (λ (n : ℕ). Does (steal_by n (world_of c.args.store.now) c.args.s) c.go_on.new.store
    c.args.todo.now.items c.go_on.new.todo.items)
    (c.share.ensures ∙ ap (share c.args.n) c.free_places-free.ensures) c.go_on.ensures
