use Rattle.std.proofs.Common.{rules, ap, sym, ◌∙◌, is_some}
use Rattle.task_moves.specs.declared.moves.owed.Moved.{Moved}
use Rattle.task_word.specs.Word.{pack}
use Rattle.task_word.specs.Steps as steps
use Rattle.task_word.specs.Steps.{copied}
use Rattle.task_word.proofs.Moving.{copies, done, still, refused, unrefused, few_copied}
use Rattle.task_word.proofs.steps.wakers.copy_once.Goals as goal

pub encode-new-requires : goal.encode-new-requires
encode-new-requires g c = few_copied c.decode-word.result.state c.copy_of-moved.result c.copy_of-moved.ensures
    (c.look-old.ensures.saw.2 c.decode-word.result.state c.decode-word.result.rests (sym c.decode-word.ensures)).1

pub compare_exchange-requires : goal.compare_exchange-requires
compare_exchange-requires g c = (
  search rules,
  search rules,
  copies _ _ c.look-old.new.pass.me c.look-old.result c.encode-new.result
      c.decode-word.result.state c.decode-word.result.rests c.decode-word.ensures
      (still c.args.pass.now.me c.look-old.new.pass.me c.requires.has c.look-old.ensures.saw.0).0
      (ap (λ (z : Moved). is_some z.owed.answer) (sym c.copy_of-moved.ensures) ∙ sym c.is_some.ensures ∙ c.if-is_some.false)
      (c.encode-new.ensures ∙ ap (λ (z : Moved). pack z.state c.decode-word.result.rests) c.copy_of-moved.ensures),
)

pub returns-then-is_some-clause-one : goal.returns-then-is_some-clause-one
returns-then-is_some-clause-one g c =
    refused c.copy_of-moved.result.owed.answer c.is_some.result c.look-old.new.pass c.is_some.ensures c.if-is_some.true
    (still c.args.pass.now.me c.look-old.new.pass.me c.requires.has c.look-old.ensures.saw.0)

pub returns-then-compare_exchange-old-clause-one : goal.returns-then-compare_exchange-old-clause-one
returns-then-compare_exchange-old-clause-one g c =
    unrefused c.copy_of-moved.result.owed.answer c.is_some.result c.look-old.new.pass.me c.compare_exchange.new.seat c.is_some.ensures
    c.if-is_some.false (still c.args.pass.now.me c.look-old.new.pass.me c.requires.has c.look-old.ensures.saw.0)
    (done steps.copy copied c.look-old.result c.encode-new.result c.look-old.new.pass.me c.compare_exchange.new.seat.me
    c.decode-word.result.state c.decode-word.result.rests c.copy_of-moved.result c.decode-word.ensures c.copy_of-moved.ensures
    (c.compare_exchange.ensures.2.0 c.if-compare_exchange-old.true)).1
