use Rattle.std.proofs.Common.{◌++◌, ap, sym, ◌∙◌, arith, List}
use Rattle.std.specs.Prelude.{reverse}
use Rattle.executor_model.specs.declared.op.Op.{Op}
use Rattle.executor_core.specs.Views.{world_of}
use Rattle.executor_core.proofs.FallingAsleep.{put-down, up-next, up-world, where-is}
use Rattle.executor_core.proofs.act.tick.wake_up.Goals as goal

pub returns : goal.returns
returns c =
    let s = c.args.store.now in
    let who = c.args.who in
    let b = s.ticks_and_runs.flagged_sleepers.has_room in
    record {
      world = put-down s c.wake_up-old.new.self who _ _ _ c.wake_up-old.ensures.ticks c.wake_up-old.ensures.runs
          c.wake_up-old.ensures.sleepers c.wake_up-old.ensures.flag ∙ up-world (world_of s) who b _ (where-is s who);
      next = c.push_sleeper_goes.ensures.items ∙ ap (λ (l : List Op). c.args.todo.now.items ++ reverse l)
          (sym (up-next (world_of s) who b _ c.wake_up-old.result (where-is s who) c.wake_up-old.ensures.old));
      room = omega (arith, c.requires.room.trace);
    }
