use Rattle.std.proofs.Common.{◌++◌, ap, sym, ◌∙◌}
use Rattle.std.specs.Prelude.{reverse}
use Rattle.executor_model.specs.declared.call.Reply.TheVariants as reply
use Rattle.executor_model.specs.declared.op.Hold.TheVariants as hold
use Rattle.executor_model.specs.declared.op.ListOp.TheVariants as list_op
use Rattle.executor_model.specs.declared.op.Op.TheVariants as op
use Rattle.executor_model.specs.declared.op.RunOp.TheVariants as run_op
use Rattle.executor_model.specs.declared.op.Section.TheVariants as section
use Rattle.executor_model.specs.declared.op.TickOrRun.TheVariants as tick_or_run
use Rattle.executor_model.specs.declared.op.TickOp.TheVariants as tick_op
use Rattle.executor_model.specs.declared.op.UserOp.TheVariants as user_op
use Rattle.executor_model.specs.Steps.{drop_run}
use Rattle.executor_model.specs.World.{Stage}
use Rattle.executor_core.specs.Running.{Running}
use Rattle.executor_core.specs.Runs.{as_stage}
use Rattle.executor_core.specs.Views.{world_of}
use Rattle.executor_core.proofs.Owing.{two-put-on}
use Rattle.executor_core.proofs.Stealing.{with_runs}
use Rattle.executor_core.proofs.begin.begin_drop_of_run.Goals as goal

pub returns-in-New : goal.returns-in-New
returns-in-New c =
    let s = c.args.store.now in
    let r = c.args.r in
    let t = c.args.todo.now.items in
    record {
      world = ap (λ (v : Running). world_of (with_runs s v)) c.begin_drop.ensures;
      next = two-put-on t _ _ (op.Run (run_op.Reschedule r reply.Done)) (op.User (user_op.DropOwn r)) c.push_reserved.ensures.items
          c.push_reserved-in-New.ensures.items
          ∙ ap (λ (k : Stage). t ++ reverse (drop_run k r)) (sym (ap as_stage c.in-New.is) ∙ c.stage-stage.ensures);
      room = c.requires.room;
    }

pub returns-in-Listed : goal.returns-in-Listed
returns-in-Listed c =
    let s = c.args.store.now in
    let r = c.args.r in
    let t = c.args.todo.now.items in
    record {
      world = ap (λ (v : Running). world_of (with_runs s v)) c.begin_drop.ensures;
      next = two-put-on t _ _ (op.List (list_op.LockWrite (section.Unregister r reply.Done)))
          (op.User (user_op.DropOwn r)) c.push_reserved-in-Listed.ensures.items
          c.push_reserved-in-Listed-2.ensures.items
          ∙ ap (λ (k : Stage). t ++ reverse (drop_run k r)) (sym (ap as_stage c.in-Listed.is) ∙ c.stage-stage.ensures);
      room = c.requires.room;
    }

pub returns-in-Ended : goal.returns-in-Ended
returns-in-Ended c =
    let s = c.args.store.now in
    let r = c.args.r in
    let t = c.args.todo.now.items in
    record {
      world = ap (λ (v : Running). world_of (with_runs s v)) c.begin_drop.ensures;
      next = two-put-on t _ _ (op.End reply.Done (hold.Run r)) (op.Tick (tick_op.Leave (tick_or_run.Run r)))
          c.push_reserved-in-Ended.ensures.items
          c.push_reserved-in-Ended-2.ensures.items
          ∙ ap (λ (k : Stage). t ++ reverse (drop_run k r)) (sym (ap as_stage c.in-Ended.is) ∙ c.stage-stage.ensures);
      room = c.requires.room;
    }
