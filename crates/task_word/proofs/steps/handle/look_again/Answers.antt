use Rattle.std.proofs.Common.{rules, ap, sym, ◌∙◌}
use Rattle.task_moves.specs.Moves as moves
use Rattle.task_moves.specs.declared.moves.owed.Moved.{Moved}
use Rattle.task_word.specs.Word.{pack}
use Rattle.task_word.specs.Steps.{polled}
use Rattle.task_word.proofs.Moving.{done, still}
use Rattle.task_word.proofs.Polling.{polls, polled_now, still_polled, few_polled, look_again_looks}
use Rattle.task_word.proofs.steps.handle.look_again.Goals as goal

pub encode-new-requires : goal.encode-new-requires
encode-new-requires g c = few_polled moves.look_again c.decode-word.result.state c.look_again-moved.result
    (look_again_looks c.decode-word.result.state) c.look_again-moved.ensures
    (c.look-old.ensures.saw.2 c.decode-word.result.state c.decode-word.result.rests (sym c.decode-word.ensures)).1

pub returns-then-new-old-clause-right : goal.returns-then-new-old-clause-right
returns-then-new-old-clause-right g c =
    still_polled moves.look_again c.decode-word.result.state c.decode-word.result.rests c.look_again-moved.result c.look-old.result
    c.encode-new.result c.look-old.new.pass
    (look_again_looks c.decode-word.result.state) c.decode-word.ensures c.encode-new.ensures c.if-new-old.true
    c.look_again-moved.ensures (still c.loop.pass.me c.look-old.new.pass.me
    (still c.args.pass.now.me c.loop.pass.me c.requires.has c.loop.invariant.1) c.look-old.ensures.saw.0)

pub compare_exchange-requires : goal.compare_exchange-requires
compare_exchange-requires g c = (
  search rules,
  search rules,
  polls _ _ c.look-old.new.pass.me c.look-old.result c.encode-new.result c.decode-word.result.state c.decode-word.result.rests
      c.decode-word.ensures moves.look_again (look_again_looks c.decode-word.result.state)
      (still c.loop.pass.me c.look-old.new.pass.me
      (still c.args.pass.now.me c.loop.pass.me c.requires.has c.loop.invariant.1) c.look-old.ensures.saw.0).0
      (c.encode-new.ensures ∙ ap (λ (z : Moved). pack z.state c.decode-word.result.rests) c.look_again-moved.ensures),
)

pub returns-then-compare_exchange-old-clause-right : goal.returns-then-compare_exchange-old-clause-right
returns-then-compare_exchange-old-clause-right g c =
    polled_now c.look_again-moved.result c.look-old.new.pass.me c.compare_exchange.new.seat
    (still c.loop.pass.me c.look-old.new.pass.me
    (still c.args.pass.now.me c.loop.pass.me c.requires.has c.loop.invariant.1) c.look-old.ensures.saw.0).1
    ((done moves.look_again polled c.look-old.result c.encode-new.result c.look-old.new.pass.me c.compare_exchange.new.seat.me
    c.decode-word.result.state c.decode-word.result.rests c.look_again-moved.result c.decode-word.ensures c.look_again-moved.ensures
    (c.compare_exchange.ensures.2.0 c.if-compare_exchange-old.true)).1)
