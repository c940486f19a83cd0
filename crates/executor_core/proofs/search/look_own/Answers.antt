use Rattle.std.proofs.Common.{ℕ, List, [], ◌∷◌, ◌++◌, ap, sym, ◌∙◌, subst}
use Rattle.executor_model.specs.declared.op.ListOp.TheVariants as list_op
use Rattle.executor_model.specs.declared.op.Op.{Op}
use Rattle.executor_model.specs.declared.op.Op.TheVariants as op
use Rattle.executor_model.specs.ActsOfRuns.{behind, found, look_own_by}
use Rattle.executor_model.specs.World.{Done}
use Rattle.executor_core.specs.Running.{Running}
use Rattle.executor_core.specs.Views.{world_of, Does}
use Rattle.executor_core.proofs.Owing.{reverse_before}
use Rattle.executor_core.proofs.Stealing.{with_runs}
use Rattle.executor_core.proofs.search.look_own.Goals as goal

pub returns-in-Some : goal.returns-in-Some
returns-in-Some c =
    let s = c.args.store.now in
    let x = c.args.x in
    let f = c.in-Some.f in
    let t = c.args.todo.now.items in
    let d = c.push_found.ensures.does in
    subst (λ (e : Done). Does e c.push_found.new.store t c.push_reserved.new.self.items)
    (ap (λ (v : Running). behind (op.List list_op.UnlockRead ∷ []) (found (world_of (with_runs s v)) x f))
    c.take.ensures.rest
    ∙ sym (ap (λ (q : List ℕ). look_own_by q (world_of s) x c.args.at c.args.left) c.in-Some.ensures.some))
    (record {
      world = d.world;
      next = c.push_reserved.ensures.items ∙ ap (λ (l : List Op). l ++ op.List list_op.UnlockRead ∷ []) d.next
          ∙ sym (reverse_before t (op.List list_op.UnlockRead ∷ [])
          (found (world_of (with_runs s c.take.new.self)) x f).next);
      room = d.room;
    })
