use Rattle.std.proofs.Common.{[], ◌∷◌, ◌++◌, List, ap, sym, ◌∙◌, refl}
use Rattle.std.specs.Prelude.{reverse}
use Rattle.executor_model.specs.declared.op.ListOp.TheVariants as list_op
use Rattle.executor_model.specs.declared.op.Op.{Op}
use Rattle.executor_model.specs.declared.op.Op.TheVariants as op
use Rattle.executor_model.specs.declared.op.Sleeping.{Sleeping}
use Rattle.executor_model.specs.declared.op.TickOp.TheVariants as tick_op
use Rattle.executor_core.specs.Walks.{goes_to}
use Rattle.executor_core.proofs.Owing.{two-put-on}
use Rattle.executor_core.proofs.search.push_walk.Goals as goal

pub returns-in-Some : goal.returns-in-Some
returns-in-Some c =
    c.push_reserved.ensures.items ∙ ap (λ (l : List Op). c.args.todo.now.items ++ reverse l)
    (sym (c.next.ensures c.args.x refl ∙ ap (goes_to c.args.x) c.in-Some.is))

pub returns-in-None : goal.returns-in-None
returns-in-None c =
    let x = c.args.x in
    let t = c.args.todo.now.items in
    two-put-on t _ _ (op.Tick (tick_op.CopyWaker c.asleep.result)) (op.List list_op.UnlockRead)
    c.push_reserved-in-None.ensures.items c.push_reserved-in-None-2.ensures.items
    ∙ (ap (λ (s : Sleeping). t ++ op.Tick (tick_op.CopyWaker s) ∷ op.List list_op.UnlockRead ∷ []) c.asleep.ensures
    ∙ ap (λ (l : List Op). t ++ reverse l) (sym (c.next.ensures x refl ∙ ap (goes_to x) c.in-None.is)))
