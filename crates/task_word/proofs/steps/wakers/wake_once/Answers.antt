use Rattle.std.proofs.Common.{rules, ap, sym, ◌∙◌}
use Rattle.task_moves.specs.Moves as moves
use Rattle.task_moves.specs.declared.moves.owed.Moved.{Moved}
use Rattle.task_word.specs.Word.{pack}
use Rattle.task_word.specs.Steps.{woken}
use Rattle.task_word.proofs.Moving.{done, still, queued_now}
use Rattle.task_word.proofs.Moving.{wakes, few_woken}
use Rattle.task_word.proofs.steps.wakers.wake_once.Goals as goal

pub encode-new-requires : goal.encode-new-requires
encode-new-requires g c = few_woken c.decode-word.result.state c.wake_by_reference-moved.result c.wake_by_reference-moved.ensures
    (c.look-old.ensures.saw.2 c.decode-word.result.state c.decode-word.result.rests (sym c.decode-word.ensures)).1

pub compare_exchange-requires : goal.compare_exchange-requires
compare_exchange-requires g c = (
  search rules,
  search rules,
  wakes _ _ c.look-old.new.pass.me c.look-old.result c.encode-new.result
      c.decode-word.result.state c.decode-word.result.rests c.decode-word.ensures
      (still c.args.pass.now.me c.look-old.new.pass.me c.requires.has c.look-old.ensures.saw.0).0
      (c.encode-new.ensures ∙ ap (λ (z : Moved). pack z.state c.decode-word.result.rests) c.wake_by_reference-moved.ensures),
)

pub returns-then-compare_exchange-old-clause-right : goal.returns-then-compare_exchange-old-clause-right
returns-then-compare_exchange-old-clause-right g c =
    queued_now c.wake_by_reference-moved.result.owed.schedule c.look-old.new.pass.me c.compare_exchange.new.seat
    (still c.args.pass.now.me c.look-old.new.pass.me c.requires.has c.look-old.ensures.saw.0)
    (done moves.wake_by_reference woken c.look-old.result c.encode-new.result c.look-old.new.pass.me c.compare_exchange.new.seat.me
    c.decode-word.result.state c.decode-word.result.rests c.wake_by_reference-moved.result c.decode-word.ensures
    c.wake_by_reference-moved.ensures (c.compare_exchange.ensures.2.0 c.if-compare_exchange-old.true)).1
