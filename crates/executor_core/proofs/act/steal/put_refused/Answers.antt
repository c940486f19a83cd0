use Rattle.std.proofs.Common.{List, [], ◌∷◌, ◌++◌, ap, sym, ◌∙◌, subst}
use Rattle.task_moves.specs.declared.moves.owed.Move.TheVariants as move
use Rattle.executor_model.specs.declared.op.Op.{Op}
use Rattle.executor_model.specs.declared.op.Op.TheVariants as op
use Rattle.executor_model.specs.ActsOfRuns.{stolen}
use Rattle.executor_model.specs.World.{Done}
use Rattle.executor_core.specs.Views.{world_of, Does}
use Rattle.executor_core.proofs.Owing.{reverse_before}
use Rattle.executor_core.proofs.Stealing.{refused-else}
use Rattle.executor_core.proofs.act.steal.put_refused.Goals as goal

pub returns-else-walks : goal.returns-else-walks
returns-else-walks c =
    let w = world_of c.args.store.now in
    let x = c.args.s in
    let f = c.args.f in
    let t = c.args.todo.now.items in
    let d = c.end.ensures.does in
    subst (λ (e : Done). Does e c.end.new.store t c.push_reserved-else-walks.new.self.items)
    (sym (refused-else x.then w x.poll f (sym c.is_walk-walks.ensures ∙ c.if-walks.false)))
    (record {
      world = d.world;
      next = c.push_reserved-else-walks.ensures.items ∙ (ap (λ (l : List Op). l ++ op.Move move.DropRunnable f ∷ []) d.next
          ∙ sym (reverse_before t (op.Move move.DropRunnable f ∷ []) (stolen x.then w x.poll).next));
      room = d.room;
    })
