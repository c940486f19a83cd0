use Rattle.std.proofs.Common.{ℕ, sym, subst, refl}
use Rattle.executor_model.specs.ActsOfRuns.{steal_by}
use Rattle.executor_model.specs.World.{Done}
use Rattle.executor_core.specs.Views.{world_of, Does}
use Rattle.executor_core.proofs.Stealing.{left-some}
use Rattle.executor_core.proofs.act.steal.go_on.Goals as goal

pub returns-then-left-eq0 : goal.returns-then-left-eq0
returns-then-left-eq0 c =
    subst (λ (n : ℕ). Does (steal_by n (world_of c.args.store.now) c.args.s) c.end.new.store
    c.args.todo.now.items c.end.new.todo.items)
    (sym c.if-left-eq0.true) c.end.ensures.does

pub returns-else-left-eq0 : goal.returns-else-left-eq0
returns-else-left-eq0 c =
    let s = c.args.store.now in
    subst (λ (d : Done). Does d s c.args.todo.now.items c.push_reserved.new.self.items)
    (sym (left-some c.args.left (world_of s) c.args.s c.if-left-eq0.false))
    (record { world = refl; next = c.push_reserved.ensures.items; room = c.requires.room })
