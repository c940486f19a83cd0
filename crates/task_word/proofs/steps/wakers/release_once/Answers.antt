use Rattle.std.proofs.Common.{rules, ap, sym, subst, ◌∙◌, arith}
use Rattle.task_moves.specs.declared.moves.owed.Moved.{Moved}
use Rattle.task_word.specs.Word.{pack}
use Rattle.task_word.specs.Cell.{weight}
use Rattle.task_moves.specs.Moves as moves
use Rattle.task_moves.specs.declared.moves.owed.Owed.{Owed}
use Rattle.task_word.specs.Steps.{Makes, released}
use Rattle.task_word.proofs.Once.{leaves_nothing, owes_nothing}
use Rattle.task_word.proofs.Moving.{releases, done, still, few_released}
use Rattle.task_word.proofs.steps.wakers.release_once.Goals as goal

pub release-moved-requires : goal.release-moved-requires
release-moved-requires g c = let had = ap weight c.requires.has.0 in
    let s = (c.look-old.ensures.saw.2 c.decode-word.result.state c.decode-word.result.rests (sym c.decode-word.ensures)).0 in
    omega (arith, had, s)

pub encode-new-requires : goal.encode-new-requires
encode-new-requires g c = few_released c.decode-word.result.state c.release-moved.result c.release-moved.ensures
    (c.look-old.ensures.saw.2 c.decode-word.result.state c.decode-word.result.rests (sym c.decode-word.ensures)).1

pub compare_exchange-requires : goal.compare_exchange-requires
compare_exchange-requires g c = (
  search rules,
  search rules,
  releases _ _ c.look-old.new.pass.me c.look-old.result c.encode-new.result
      c.decode-word.result.state c.decode-word.result.rests c.decode-word.ensures
      (still c.args.pass.now.me c.look-old.new.pass.me c.requires.has c.look-old.ensures.saw.0).0
      (c.encode-new.ensures ∙ ap (λ (z : Moved). pack z.state c.decode-word.result.rests) c.release-moved.ensures),
)

pub returns-then-compare_exchange-old-clause-right : goal.returns-then-compare_exchange-old-clause-right
returns-then-compare_exchange-old-clause-right g c =
    let i = still c.args.pass.now.me c.look-old.new.pass.me c.requires.has c.look-old.ensures.saw.0 in
    let w = leaves_nothing c.decode-word.result.state c.release-moved.result c.look-old.new.pass.me c.compare_exchange.new.seat.me
    c.release-moved.ensures (sym c.is_last_now.ensures ∙ c.if-is_last_now.false)
    (done moves.release released c.look-old.result c.encode-new.result c.look-old.new.pass.me c.compare_exchange.new.seat.me
    c.decode-word.result.state c.decode-word.result.rests c.release-moved.result c.decode-word.ensures c.release-moved.ensures
    (c.compare_exchange.ensures.2.0 c.if-compare_exchange-old.true)).1 in
    (w.0, w.1 ∙ i.1)

pub returns-then-compare_exchange-old-clause-made : goal.returns-then-compare_exchange-old-clause-made
returns-then-compare_exchange-old-clause-made g c =
    λ _. subst (λ (o : Owed). Makes moves.release c.compare_exchange.new.seat.me.0 o)
    (owes_nothing c.decode-word.result.state c.release-moved.result c.release-moved.ensures (sym c.is_last_now.ensures ∙ c.if-is_last_now.false))
    (done moves.release released c.look-old.result c.encode-new.result c.look-old.new.pass.me c.compare_exchange.new.seat.me
    c.decode-word.result.state c.decode-word.result.rests c.release-moved.result c.decode-word.ensures c.release-moved.ensures
    (c.compare_exchange.ensures.2.0 c.if-compare_exchange-old.true)).0
