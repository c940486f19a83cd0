use Rattle.std.proofs.Common.{rules, refl, ap, sym, ◌∙◌}
use Rattle.task_moves.specs.Moves as moves
use Rattle.task_moves.specs.declared.moves.owed.Moved.{Moved}
use Rattle.task_word.specs.Word.{pack}
use Rattle.std.specs.Prelude.{ℕ, List, ◌∷◌, Some}
use Rattle.task_word.specs.declared.rule.Content.TheVariants.{Future}
use Rattle.task_word.specs.Cell.{Slot}
use Rattle.task_word.specs.Steps.{dropped}
use Rattle.task_word.proofs.Moving.{done, still, few_same}
use Rattle.task_word.proofs.Closing.{drops}
use Rattle.task_word.proofs.steps.closing.drop_runnable.Goals as goal

pub encode-new-requires : goal.encode-new-requires
encode-new-requires g c =
    few_same c.decode-word.result.state c.drop_runnable-moved.result moves.drop_runnable c.drop_runnable-moved.ensures refl
    (c.look-old.ensures.saw.2 c.decode-word.result.state c.decode-word.result.rests (sym c.decode-word.ensures)).1

pub compare_exchange-requires : goal.compare_exchange-requires
compare_exchange-requires g c = (
  search rules,
  search rules,
  drops _ _ c.look-old.new.pass.me c.look-old.result c.encode-new.result
      c.decode-word.result.state c.decode-word.result.rests c.decode-word.ensures
      (still c.loop.pass.me c.look-old.new.pass.me
      (still c.args.pass.now.me c.loop.pass.me c.requires.has c.loop.invariant.1) c.look-old.ensures.saw.0).0
      (c.encode-new.ensures ∙ ap (λ (z : Moved). pack z.state c.decode-word.result.rests) c.drop_runnable-moved.ensures),
)

pub returns-then-compare_exchange-old-clause-right : goal.returns-then-compare_exchange-old-clause-right
returns-then-compare_exchange-old-clause-right g c = let m =
    still c.loop.pass.me c.look-old.new.pass.me
    (still c.args.pass.now.me c.loop.pass.me c.requires.has c.loop.invariant.1) c.look-old.ensures.saw.0 in
    let w : dropped c.drop_runnable-moved.result c.look-old.new.pass.me c.compare_exchange.new.seat.me =
    (done moves.drop_runnable dropped c.look-old.result c.encode-new.result c.look-old.new.pass.me c.compare_exchange.new.seat.me
    c.decode-word.result.state c.decode-word.result.rests c.drop_runnable-moved.result c.decode-word.ensures c.drop_runnable-moved.ensures
    (c.compare_exchange.ensures.2.0 c.if-compare_exchange-old.true)).1 in
    (w.0, (w.1.0, w.1.1 ∙ ap (λ (z : List (ℕ × Slot _ _ _)). (0, Some (Future w.0)) ∷ z) m.1))
