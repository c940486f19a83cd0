use Rattle.std.proofs.Common.{false, rules, ap, ◌∙◌}
use Rattle.task_moves.specs.declared.moves.state.State.{State}
use Rattle.task_word.specs.Word.{pack}
use Rattle.task_word.proofs.Moving.{still}
use Rattle.task_word.proofs.Making.{reserves}
use Rattle.task_word.proofs.steps.making.reserve.Goals as goal

pub compare_exchange-requires : goal.compare_exchange-requires
compare_exchange-requires g c = (
  search rules,
  search rules,
  reserves _ _ c.look-old.new.pass.me c.look-old.result c.encode-new.result
      c.decode-word.result.state c.decode-word.result.rests c.decode-word.ensures
      (still c.loop.pass.me c.look-old.new.pass.me
      (still c.args.pass.now.me c.loop.pass.me c.requires.has c.loop.invariant.1) c.look-old.ensures.saw.0).0
      (c.encode-new.ensures ∙ ap (λ (z : State). pack z false) c.taken.ensures) (c.is_over.ensures.0 c.if-is_over.true),
)
