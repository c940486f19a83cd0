use Rattle.std.proofs.Common.{List, [], ◌∷◌, ◌++◌, ap, sym, ◌∙◌}
use Rattle.std.specs.Prelude.{reverse}
use Rattle.task_moves.specs.declared.moves.owed.Move.TheVariants as move
use Rattle.executor_model.specs.declared.op.Op.{Op}
use Rattle.executor_model.specs.declared.op.Op.TheVariants as op
use Rattle.executor_core.specs.WakingUp.{onward}
use Rattle.executor_core.proofs.Finding.{onward-next, taken-world}
use Rattle.executor_core.proofs.Owing.{reverse_before}
use Rattle.executor_core.proofs.found.push_run.Goals as goal

pub returns-clause-does : goal.returns-clause-does
returns-clause-does c =
    let s = c.args.store.now in
    let x = c.args.x in
    let f = c.args.f in
    let t = c.args.todo.now.items in
    let b = c.take_one-full.result in
    record {
      world = taken-world s x f b c.take_one-full.new.self c.take_one-full.ensures.full c.take_one-full.ensures.taken;
      next = c.push_reserved.ensures.items
          ∙ (ap (λ (l : List Op). l ++ op.Move move.TakeUp f ∷ []) c.push_onward.ensures.items
          ∙ (sym (reverse_before t (op.Move move.TakeUp f ∷ []) (onward b x))
          ∙ ap (λ (l : List Op). t ++ reverse l) (sym (onward-next s x f b c.take_one-full.ensures.full))));
      room = c.requires.room;
    }
