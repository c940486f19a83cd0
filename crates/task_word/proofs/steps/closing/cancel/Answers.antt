use Rattle.std.proofs.Common.{rules, ap, sym, ◌∙◌}
use Rattle.task_moves.specs.Moves as moves
use Rattle.task_moves.specs.declared.moves.owed.Moved.{Moved}
use Rattle.task_word.specs.Word.{pack}
use Rattle.task_word.specs.Steps.{woken}
use Rattle.task_word.proofs.Moving.{done, still, queued_now}
use Rattle.task_word.proofs.Closing.{cancels, still_cancelled, few_cancelled}
use Rattle.task_word.proofs.steps.closing.cancel.Goals as goal

pub encode-new-requires : goal.encode-new-requires
encode-new-requires g c = few_cancelled c.decode-word.result.state c.cancel-moved.result c.cancel-moved.ensures
    (c.look-old.ensures.saw.2 c.decode-word.result.state c.decode-word.result.rests (sym c.decode-word.ensures)).1

pub returns-then-new-old-clause-right : goal.returns-then-new-old-clause-right
returns-then-new-old-clause-right g c =
    still_cancelled c.decode-word.result.state c.decode-word.result.rests c.cancel-moved.result c.look-old.result c.encode-new.result
    c.look-old.new.pass c.decode-word.ensures c.encode-new.ensures c.if-new-old.true c.cancel-moved.ensures
    (still c.loop.pass.me c.look-old.new.pass.me
    (still c.args.pass.now.me c.loop.pass.me c.requires.has c.loop.invariant.1) c.look-old.ensures.saw.0)

pub compare_exchange-requires : goal.compare_exchange-requires
compare_exchange-requires g c = (
  search rules,
  search rules,
  cancels _ _ c.look-old.new.pass.me c.look-old.result c.encode-new.result
      c.decode-word.result.state c.decode-word.result.rests c.decode-word.ensures
      (still c.loop.pass.me c.look-old.new.pass.me
      (still c.args.pass.now.me c.loop.pass.me c.requires.has c.loop.invariant.1) c.look-old.ensures.saw.0).0
      (c.encode-new.ensures ∙ ap (λ (z : Moved). pack z.state c.decode-word.result.rests) c.cancel-moved.ensures),
)

pub returns-then-compare_exchange-old-clause-right : goal.returns-then-compare_exchange-old-clause-right
returns-then-compare_exchange-old-clause-right g c =
    queued_now c.cancel-moved.result.owed.schedule c.look-old.new.pass.me c.compare_exchange.new.seat
    (still c.loop.pass.me c.look-old.new.pass.me
    (still c.args.pass.now.me c.loop.pass.me c.requires.has c.loop.invariant.1) c.look-old.ensures.saw.0)
    (done moves.cancel woken c.look-old.result c.encode-new.result c.look-old.new.pass.me c.compare_exchange.new.seat.me
    c.decode-word.result.state c.decode-word.result.rests c.cancel-moved.result c.decode-word.ensures c.cancel-moved.ensures
    (c.compare_exchange.ensures.2.0 c.if-compare_exchange-old.true)).1
