use Rattle.std.proofs.Common.{rules, ap, sym, subst, ◌∙◌}
use Rattle.std.specs.Prelude.{ℕ, List, ◌∷◌, Some}
use Rattle.task_moves.specs.Moves as moves
use Rattle.task_moves.specs.declared.moves.owed.Moved.{Moved}
use Rattle.task_word.specs.Word.{pack}
use Rattle.task_word.specs.declared.rule.Content.TheVariants.{Future}
use Rattle.task_word.specs.Cell.{Slot}
use Rattle.task_moves.specs.declared.moves.owed.Owed.{Owed}
use Rattle.task_word.specs.Steps.{Makes, began}
use Rattle.task_word.proofs.Once.{owes_a_poll}
use Rattle.task_word.proofs.Moving.{done, still}
use Rattle.task_word.proofs.Running.{begins, few_begun}
use Rattle.task_word.proofs.steps.runs.take_up_once.Goals as goal

pub encode-new-requires : goal.encode-new-requires
encode-new-requires g c = few_begun c.decode-word.result.state c.take_up-moved.result c.take_up-moved.ensures
    (c.look-old.ensures.saw.2 c.decode-word.result.state c.decode-word.result.rests (sym c.decode-word.ensures)).1

pub compare_exchange-requires : goal.compare_exchange-requires
compare_exchange-requires g c = (
  search rules,
  search rules,
  begins _ _ c.look-old.new.pass.me c.look-old.result c.encode-new.result c.decode-word.result.state
      c.decode-word.result.rests c.decode-word.ensures c.if-word.false
      (still c.args.pass.now.me c.look-old.new.pass.me c.requires.has c.look-old.ensures.saw.0).0
      (c.encode-new.ensures ∙ ap (λ (z : Moved). pack z.state c.decode-word.result.rests) c.take_up-moved.ensures),
)

pub returns-then-compare_exchange-old-clause-right : goal.returns-then-compare_exchange-old-clause-right
returns-then-compare_exchange-old-clause-right g c =
    let n = still c.args.pass.now.me c.look-old.new.pass.me c.requires.has c.look-old.ensures.saw.0 in
    let w : began c.take_up-moved.result c.look-old.new.pass.me c.compare_exchange.new.seat.me =
    (done moves.take_up began c.look-old.result c.encode-new.result c.look-old.new.pass.me c.compare_exchange.new.seat.me
    c.decode-word.result.state c.decode-word.result.rests c.take_up-moved.result c.decode-word.ensures c.take_up-moved.ensures
    (c.compare_exchange.ensures.2.0 c.if-compare_exchange-old.true)).1 in
    (w.0, (w.1.0, w.1.1 ∙ ap (λ (z : List (ℕ × Slot _ _ _)). (0, Some (Future w.0)) ∷ z) n.1))

pub returns-then-compare_exchange-old-clause-made : goal.returns-then-compare_exchange-old-clause-made
returns-then-compare_exchange-old-clause-made g c =
    λ _. subst (λ (o : Owed). Makes moves.take_up c.compare_exchange.new.seat.me.0 o)
    (owes_a_poll c.decode-word.result.state c.take_up-moved.result c.take_up-moved.ensures c.if-word.false)
    (done moves.take_up began c.look-old.result c.encode-new.result c.look-old.new.pass.me c.compare_exchange.new.seat.me
    c.decode-word.result.state c.decode-word.result.rests c.take_up-moved.result c.decode-word.ensures c.take_up-moved.ensures
    (c.compare_exchange.ensures.2.0 c.if-compare_exchange-old.true)).0
