use Rattle.std.proofs.Common.{false, rules, ap, ◌∙◌}
use Rattle.task_moves.specs.declared.moves.state.State.{State}
use Rattle.task_word.specs.Word.{pack}
use Rattle.task_word.proofs.Making.{fills, parts}
use Rattle.task_word.proofs.steps.making.make.Goals as goal

pub store-requires : goal.store-requires
store-requires g c = (
  search rules,
  search rules,
  fills _ _ c.args.pass.now.me c.requires.has.0 c.encode-new.result c.requires.has.1.0
      c.requires.has.1.1 (c.encode-new.ensures ∙ ap (λ (z : State). pack z false) c.make.ensures),
)

pub split_seat-requires : goal.split_seat-requires
split_seat-requires g c = (search rules, search rules, parts _ _ c.store.ensures.2.0.0)
