use Rattle.std.proofs.Common.{List, [], ◌∷◌, ◌++◌, ap, ◌∙◌}
use Rattle.std.specs.Prelude.{reverse}
use Rattle.executor_model.specs.declared.op.Op.{Op}
use Rattle.executor_model.specs.declared.op.Op.TheVariants as op
use Rattle.executor_model.specs.declared.op.TickOrRun.TheVariants as tick_or_run
use Rattle.executor_model.specs.declared.op.SleeperOp.TheVariants as sleeper_op
use Rattle.executor_model.specs.World.{run_of}
use Rattle.executor_core.specs.WakingUp.{counted, wakes_up}
use Rattle.executor_core.specs.Views.{world_of}
use Rattle.executor_core.proofs.Finding.{found-next}
use Rattle.executor_core.proofs.found.push_found.Goals as goal

pub returns-clause-does : goal.returns-clause-does
returns-clause-does c =
    let w = world_of c.args.store.now in
    let x = c.args.x in
    let d = c.push_counted.ensures.does in
    record {
      world = d.world;
      next = c.push_wake_up.ensures.items ∙ (ap (λ (l : List Op). l ++ reverse (wakes_up c.sleeps-sleeps.result (tick_or_run.Run x.run)))
          (c.push_reserved.ensures.items ∙ ap (λ (l : List Op). l ++ op.Sleeper sleeper_op.ExchangeFlag ∷ []) d.next)
          ∙ found-next c.args.todo.now.items (counted w x c.args.f).next (op.Sleeper sleeper_op.ExchangeFlag ∷ [])
          (run_of w x.run).place (tick_or_run.Run x.run) c.sleeps-sleeps.result c.sleeps-sleeps.ensures);
      room = d.room;
    }
