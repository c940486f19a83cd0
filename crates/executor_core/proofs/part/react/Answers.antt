use Rattle.std.proofs.Common.{◌≡◌, ap, sym, ◌∙◌, subst}
use Rattle.executor_model.specs.declared.op.Op.{Op}
use Rattle.executor_model.specs.declared.op.Op.TheVariants as op
use Rattle.executor_model.specs.declared.op.UserOp.TheVariants as user_op
use Rattle.executor_model.specs.Steps as steps
use Rattle.executor_core.specs.Views.{world_of, Does}
use Rattle.executor_core.proofs.part.react.Goals as goal

pub returns-in-User-PollOwn : goal.returns-in-User-PollOwn
returns-in-User-PollOwn c =
    let i = c.in-User-PollOwn in
    let inner : i.field-0 ≡ user_op.PollOwn i.x = rw i.is at i.field-0-is in
    subst
    (λ (o : Op). Does (steps.react c.args.party o c.args.end (world_of c.args.store.now)) c.react_own.new.store
    c.args.todo.now.items c.react_own.new.todo.items)
    (sym (i.is ∙ ap op.User inner)) (c.react_own.ensures c.args.party)
