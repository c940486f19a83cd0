use Rattle.std.proofs.Common.{ℕ, ap, sym, ◌∙◌, subst, arith, refl}
use Rattle.executor_model.specs.ActsOfRuns.{steal_length_by}
use Rattle.executor_model.specs.World.{Done}
use Rattle.executor_core.specs.Views.{world_of, Does}
use Rattle.executor_core.proofs.Stealing.{length-some}
use Rattle.executor_core.proofs.act.steal.read_length.Goals as goal

pub returns-then-n-eq0 : goal.returns-then-n-eq0
returns-then-n-eq0 c =
    subst (λ (n : ℕ). Does (steal_length_by n (world_of c.args.store.now) c.args.s) c.end.new.store
    c.args.todo.now.items c.end.new.todo.items)
    (sym c.if-n-eq0.true ∙ c.source_len-n.ensures) c.end.ensures.does

pub returns-else-n-eq0 : goal.returns-else-n-eq0
returns-else-n-eq0 c =
    let s = c.args.store.now in
    let n = c.source_len-n.result in
    subst (λ (d : Done). Does d s c.args.todo.now.items c.push_reserved.new.self.items)
    (sym (length-some n (world_of s) c.args.s c.if-n-eq0.false)
    ∙ ap (λ (m : ℕ). steal_length_by m (world_of s) c.args.s) c.source_len-n.ensures)
    (record { world = refl; next = c.push_reserved.ensures.items; room = omega (arith, c.requires.room.trace) })
