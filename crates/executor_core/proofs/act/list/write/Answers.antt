use Rattle.std.proofs.Common.{sym, arith, subst}
use Rattle.executor_model.specs.declared.op.ListOp.TheVariants as list_op
use Rattle.executor_model.specs.declared.op.Op.TheVariants as op
use Rattle.executor_model.specs.declared.op.RunOp.TheVariants as run_op
use Rattle.executor_model.specs.declared.op.Section.{Section}
use Rattle.executor_model.specs.declared.op.UserOp.TheVariants as user_op
use Rattle.executor_model.specs.ActsOfRuns.{write}
use Rattle.executor_core.specs.Views.{world_of, Does}
use Rattle.executor_core.proofs.Listing.{come, gone}
use Rattle.executor_core.proofs.Owing.{two-put-on}
use Rattle.executor_core.proofs.Stealing.{with_runs}
use Rattle.executor_core.proofs.act.list.write.Goals as goal

pub returns-in-Register : goal.returns-in-Register
returns-in-Register c =
    let s = c.args.store.now in
    let x = c.in-Register.x in
    let t = c.args.todo.now.items in
    let rs = c.register.new.self in
    subst
    (λ (k : Section). Does (write c.args.hint k (world_of s)) (with_runs s rs) t
    c.push_reserved-in-Register.new.self.items)
    (sym c.in-Register.is)
    (record {
      world = come s x.run rs rs.has_room c.register.ensures;
      next = two-put-on t _ _ (op.User (user_op.PollOwn x)) (op.List list_op.UnlockWrite) c.push_reserved.ensures.items
          c.push_reserved-in-Register.ensures.items;
      room = omega (arith, c.requires.room.trace);
    })

pub returns-in-Unregister : goal.returns-in-Unregister
returns-in-Unregister c =
    let s = c.args.store.now in
    let r = c.in-Unregister.r in
    let t = c.args.todo.now.items in
    let rs = c.unregister.new.self in
    subst
    (λ (k : Section). Does (write c.args.hint k (world_of s)) (with_runs s rs) t
    c.push_reserved-in-Unregister-2.new.self.items)
    (sym c.in-Unregister.is)
    (record {
      world = gone s r rs rs.has_room c.unregister.ensures;
      next = two-put-on t _ _ (op.Run (run_op.Reschedule r c.in-Unregister.reply)) (op.List list_op.UnlockWrite)
          c.push_reserved-in-Unregister.ensures.items c.push_reserved-in-Unregister-2.ensures.items;
      room = omega (arith, c.requires.room.trace);
    })
