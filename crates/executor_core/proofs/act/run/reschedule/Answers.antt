use Rattle.std.proofs.Common.{ℕ, List, ap, sym, arith, subst}
use Rattle.executor_model.specs.declared.op.Op.TheVariants as op
use Rattle.executor_model.specs.declared.op.QueueOp.TheVariants as queue_op
use Rattle.executor_model.specs.declared.op.RunOp.TheVariants as run_op
use Rattle.executor_model.specs.ActsOfRuns.{reschedule_by}
use Rattle.executor_core.specs.Running.{Running}
use Rattle.executor_core.specs.Views.{world_of, Does}
use Rattle.executor_core.proofs.Owing.{two-put-on}
use Rattle.executor_core.proofs.Stealing.{with_runs}
use Rattle.executor_core.proofs.act.run.reschedule.Goals as goal

pub returns-in-Some : goal.returns-in-Some
returns-in-Some c =
    let s = c.args.store.now in
    let r = c.args.r in
    let f = c.in-Some.f in
    let t = c.args.todo.now.items in
    let a = c.args.reply in
    subst
    (λ (q : List ℕ). Does (reschedule_by q (world_of s) r a) (with_runs s c.take.new.self) t
    c.push_reserved-in-Some.new.self.items)
    (sym c.in-Some.ensures.some)
    (record {
      world = ap (λ (v : Running). world_of (with_runs s v)) c.take.ensures.rest;
      next = two-put-on t _ _ (op.Run (run_op.Reschedule r a)) (op.Queue (queue_op.Append f))
          c.push_reserved.ensures.items c.push_reserved-in-Some.ensures.items;
      room = omega (arith, c.requires.room.trace);
    })
