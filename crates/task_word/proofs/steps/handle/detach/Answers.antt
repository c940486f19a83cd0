use Rattle.std.proofs.Common.{Bool, rules, ap, sym, subst, ◌∙◌}
use Rattle.task_moves.specs.Moves as moves
use Rattle.task_moves.specs.declared.moves.owed.Moved.{Moved}
use Rattle.task_word.specs.Word.{pack}
use Rattle.task_word.specs.Steps.{let_go, LetGo}
use Rattle.task_word.proofs.Moving.{done, still}
use Rattle.task_word.proofs.Letting.{detaches, few_detached, gone_now}
use Rattle.task_word.proofs.steps.handle.detach.Goals as goal

pub encode-new-requires : goal.encode-new-requires
encode-new-requires g c = few_detached c.decode-word.result.state c.detach-moved.result c.detach-moved.ensures
    (c.look-old.ensures.saw.2 c.decode-word.result.state c.decode-word.result.rests (sym c.decode-word.ensures)).1

pub compare_exchange-requires : goal.compare_exchange-requires
compare_exchange-requires g c = (
  search rules,
  search rules,
  detaches _ _ c.look-old.new.pass.me c.look-old.result c.encode-new.result c.decode-word.result.state c.decode-word.result.rests
      c.decode-word.ensures (still c.loop.pass.me c.look-old.new.pass.me
      (still c.args.pass.now.me c.loop.pass.me c.requires.has c.loop.invariant.1) c.look-old.ensures.saw.0).0
      (c.encode-new.ensures ∙ ap (λ (z : Moved). pack z.state c.decode-word.result.rests) c.detach-moved.ensures),
)

pub returns-then-compare_exchange-old-clause-right : goal.returns-then-compare_exchange-old-clause-right
returns-then-compare_exchange-old-clause-right g c = subst (λ
    (b : Bool). LetGo c.detach-moved.result.owed.drop_output c.detach-moved.result.owed.schedule b c.compare_exchange.new.seat)
    (sym c.leaves_awaiter.ensures) (gone_now c.detach-moved.result c.look-old.new.pass.me c.compare_exchange.new.seat
    (still c.loop.pass.me c.look-old.new.pass.me
    (still c.args.pass.now.me c.loop.pass.me c.requires.has c.loop.invariant.1) c.look-old.ensures.saw.0).1
    ((done moves.detach let_go c.look-old.result c.encode-new.result c.look-old.new.pass.me c.compare_exchange.new.seat.me
    c.decode-word.result.state c.decode-word.result.rests c.detach-moved.result c.decode-word.ensures c.detach-moved.ensures
    (c.compare_exchange.ensures.2.0 c.if-compare_exchange-old.true)).1))
