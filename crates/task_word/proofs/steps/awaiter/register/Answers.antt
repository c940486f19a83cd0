use Rattle.std.proofs.Common.{rules, ap, sym, ◌∙◌}
use Rattle.task_moves.specs.Moves as moves
use Rattle.task_moves.specs.declared.moves.owed.Moved.{Moved}
use Rattle.task_word.specs.Word.{pack}
use Rattle.task_word.specs.Awaiter.{registered}
use Rattle.task_word.proofs.Moving.{done, still}
use Rattle.task_word.proofs.Awaiting.{registers, registered_now, few_register}
use Rattle.task_word.proofs.steps.awaiter.register.Goals as goal

pub encode-new-requires : goal.encode-new-requires
encode-new-requires g c = few_register c.decode-word.result.state c.register-moved.result c.register-moved.ensures
    (c.look-old.ensures.saw.2 c.decode-word.result.state c.decode-word.result.rests (sym c.decode-word.ensures)).1

pub compare_exchange-requires : goal.compare_exchange-requires
compare_exchange-requires g c = (
  search rules,
  search rules,
  registers _ _ c.look-old.new.pass.me c.look-old.result c.encode-new.result
      c.decode-word.result.state c.decode-word.result.rests c.decode-word.ensures
      (still c.loop.pass.me c.look-old.new.pass.me
      (still c.args.pass.now.me c.loop.pass.me c.requires.has c.loop.invariant.1) c.look-old.ensures.saw.0).0
      (c.encode-new.ensures ∙ ap (λ (z : Moved). pack z.state c.decode-word.result.rests) c.register-moved.ensures),
)

pub returns-then-compare_exchange-old-clause-right : goal.returns-then-compare_exchange-old-clause-right
returns-then-compare_exchange-old-clause-right g c =
    registered_now c.register-moved.result.owed.awaiter c.look-old.new.pass.me c.compare_exchange.new.seat
    (still c.loop.pass.me c.look-old.new.pass.me
    (still c.args.pass.now.me c.loop.pass.me c.requires.has c.loop.invariant.1) c.look-old.ensures.saw.0).1
    ((done moves.register registered c.look-old.result c.encode-new.result c.look-old.new.pass.me c.compare_exchange.new.seat.me
    c.decode-word.result.state c.decode-word.result.rests c.register-moved.result c.decode-word.ensures c.register-moved.ensures
    (c.compare_exchange.ensures.2.0 c.if-compare_exchange-old.true)).1)
