use Rattle.std.proofs.Common.{◌++◌, [], ◌∷◌, ap, sym, ◌∙◌, arith, List}
use Rattle.std.specs.Prelude.{reverse}
use Rattle.executor_model.specs.declared.op.Op.{Op}
use Rattle.executor_model.specs.declared.op.Op.TheVariants as op
use Rattle.executor_model.specs.declared.op.SleeperOp.TheVariants as sleeper_op
use Rattle.executor_model.specs.ActsOfSleepers as acts
use Rattle.executor_core.specs.declared.ticks.flagged_sleepers.FellAsleep.TheVariants.{Searches, Rests, Nowhere}
use Rattle.executor_core.specs.Views.{world_of}
use Rattle.executor_core.proofs.FallingAsleep.{fallen_asleep-next, fallen_asleep-world, put-down, where-is}
use Rattle.executor_core.proofs.Owing.{reverse_before}
use Rattle.executor_core.proofs.act.tick.fall_asleep.Goals as goal

pub returns-in-Searches : goal.returns-in-Searches
returns-in-Searches c =
    let s = c.args.store.now in
    let x = c.args.s in
    let b = s.ticks_and_runs.flagged_sleepers.has_room in
    record {
      world = put-down s c.fall_asleep.new.self x.who _ _ _ c.fall_asleep.ensures.ticks c.fall_asleep.ensures.runs
          c.fall_asleep.ensures.sleepers c.fall_asleep.ensures.flag ∙ fallen_asleep-world (world_of s) x b _ (where-is s x.who);
      next = c.push_reserved.ensures.items ∙ ap (λ (l : List Op). c.args.todo.now.items ++ reverse l)
          (sym (fallen_asleep-next (world_of s) x b _ Searches (where-is s x.who)
          (sym c.in-Searches.is ∙ c.fall_asleep.ensures.fell_asleep)));
      room = omega (arith, c.requires.room.trace);
    }

pub returns-in-Rests : goal.returns-in-Rests
returns-in-Rests c =
    let s = c.args.store.now in
    let x = c.args.s in
    let b = s.ticks_and_runs.flagged_sleepers.has_room in
    record {
      world = put-down s c.fall_asleep.new.self x.who _ _ _ c.fall_asleep.ensures.ticks c.fall_asleep.ensures.runs
          c.fall_asleep.ensures.sleepers c.fall_asleep.ensures.flag ∙ fallen_asleep-world (world_of s) x b _ (where-is s x.who);
      next = c.push_sleeper_goes.ensures.items
          ∙ ap (λ (l : List Op). l ++ reverse (acts.sleeper_goes c.in-Rests.old)) c.push_pending.ensures.items
          ∙ sym (reverse_before c.args.todo.now.items (acts.sleeper_goes c.in-Rests.old) (acts.pend_as x.who))
          ∙ ap (λ (l : List Op). c.args.todo.now.items ++ reverse l)
          (sym (fallen_asleep-next (world_of s) x b _ (Rests c.in-Rests.old) (where-is s x.who)
          (sym c.in-Rests.is ∙ c.fall_asleep.ensures.fell_asleep)));
      room = omega (arith, c.requires.room.trace);
    }

pub returns-in-Nowhere : goal.returns-in-Nowhere
returns-in-Nowhere c =
    let s = c.args.store.now in
    let x = c.args.s in
    let b = s.ticks_and_runs.flagged_sleepers.has_room in
    record {
      world = put-down s c.fall_asleep.new.self x.who _ _ _ c.fall_asleep.ensures.ticks c.fall_asleep.ensures.runs
          c.fall_asleep.ensures.sleepers c.fall_asleep.ensures.flag ∙ fallen_asleep-world (world_of s) x b _ (where-is s x.who);
      next = c.push_reserved-in-Nowhere.ensures.items
          ∙ ap (λ (l : List Op). l ++ op.Sleeper (sleeper_op.CallSleeper x) ∷ []) c.push_pending-in-Nowhere.ensures.items
          ∙ sym (reverse_before c.args.todo.now.items (op.Sleeper (sleeper_op.CallSleeper x) ∷ []) (acts.pend_as x.who))
          ∙ ap (λ (l : List Op). c.args.todo.now.items ++ reverse l)
          (sym (fallen_asleep-next (world_of s) x b _ Nowhere (where-is s x.who)
          (sym c.in-Nowhere.is ∙ c.fall_asleep.ensures.fell_asleep)));
      room = omega (arith, c.requires.room.trace);
    }
