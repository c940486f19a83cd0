use Rattle.std.proofs.Common.{◌++◌, ap, sym, ◌∙◌, arith, List}
use Rattle.std.specs.Prelude.{reverse}
use Rattle.executor_model.specs.declared.op.Op.{Op}
use Rattle.executor_model.specs.ActsOfSleepers as acts
use Rattle.executor_core.specs.WakingUp.{passed_on}
use Rattle.executor_core.specs.Views.{world_of}
use Rattle.executor_core.proofs.FallingAsleep.{left-next, left-world, put-down, where-is}
use Rattle.executor_core.proofs.Owing.{reverse_before}
use Rattle.executor_core.proofs.act.tick.leave.Goals as goal

pub returns : goal.returns
returns c =
    let s = c.args.store.now in
    let who = c.args.who in
    let b = s.ticks_and_runs.flagged_sleepers.has_room in
    let t = c.args.todo.now.items in
    record {
      world = put-down s c.leave-old.new.self who _ _ _ c.leave-old.ensures.ticks c.leave-old.ensures.runs
          c.leave-old.ensures.sleepers c.leave-old.ensures.flag ∙ left-world (world_of s) who b _ (where-is s who);
      next = c.push_sleeper_goes.ensures.items
          ∙ ap (λ (l : List Op). l ++ reverse (acts.sleeper_goes c.leave-old.result.0)) c.push_passed_on.ensures.items
          ∙ sym (reverse_before t (acts.sleeper_goes c.leave-old.result.0)
          (passed_on c.sleeps-slept.result c.leave-old.result.1))
          ∙ ap (λ (l : List Op). t ++ reverse l)
          (sym (left-next (world_of s) who b _ c.leave-old.result.0 c.sleeps-slept.result c.leave-old.result.1 (where-is s who)
          c.leave-old.ensures.old c.sleeps-slept.ensures c.leave-old.ensures.told));
      room = omega (arith, c.requires.room.trace);
    }
