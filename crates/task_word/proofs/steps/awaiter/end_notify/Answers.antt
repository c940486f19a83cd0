use Rattle.std.proofs.Common.{rules, refl, ap, sym, ◌∙◌}
use Rattle.task_moves.specs.Moves as moves
use Rattle.task_moves.specs.declared.moves.owed.Moved.{Moved}
use Rattle.task_word.specs.Word.{pack}
use Rattle.task_word.specs.declared.rule.Hold.TheVariants.{HandleNotifying, RunNotifying}
use Rattle.task_word.specs.Awaiter.{end_notified}
use Rattle.task_word.proofs.Moving.{done, still, few_same}
use Rattle.task_word.proofs.Awaiting.{kept, notifier, ends_notify, end_notified_now}
use Rattle.task_word.proofs.steps.awaiter.end_notify.Goals as goal

pub encode-new-requires : goal.encode-new-requires
encode-new-requires g c = few_same c.decode-word.result.state c.end_notify-moved.result moves.end_notify c.end_notify-moved.ensures refl
    (c.look-old.ensures.saw.2 c.decode-word.result.state c.decode-word.result.rests (sym c.decode-word.ensures)).1

pub compare_exchange-requires : goal.compare_exchange-requires
compare_exchange-requires g c = (
  search rules,
  search rules,
  ends_notify _ _ c.look-old.new.pass.me c.look-old.result c.encode-new.result
      c.decode-word.result.state c.decode-word.result.rests c.decode-word.ensures
      (notifier c.args.pass.now.me c.look-old.new.pass.me c.requires.has
      (kept c.args.pass.now.me c.loop.pass.me c.look-old.new.pass.me c.loop.invariant.1 c.look-old.ensures.saw.0)).0
      (notifier c.args.pass.now.me c.look-old.new.pass.me c.requires.has
      (kept c.args.pass.now.me c.loop.pass.me c.look-old.new.pass.me c.loop.invariant.1 c.look-old.ensures.saw.0)).1
      (c.encode-new.ensures ∙ ap (λ (z : Moved). pack z.state c.decode-word.result.rests) c.end_notify-moved.ensures),
)

pub returns-then-compare_exchange-old-clause-by_handle : goal.returns-then-compare_exchange-old-clause-by_handle
returns-then-compare_exchange-old-clause-by_handle g c =
    λ h. end_notified_now HandleNotifying c.look-old.new.pass.me c.compare_exchange.new.seat
    (still c.loop.pass.me c.look-old.new.pass.me (still c.args.pass.now.me c.loop.pass.me h c.loop.invariant.1) c.look-old.ensures.saw.0)
    ((done moves.end_notify end_notified c.look-old.result c.encode-new.result c.look-old.new.pass.me c.compare_exchange.new.seat.me
    c.decode-word.result.state c.decode-word.result.rests c.end_notify-moved.result c.decode-word.ensures c.end_notify-moved.ensures
    (c.compare_exchange.ensures.2.0 c.if-compare_exchange-old.true)).1)

pub returns-then-compare_exchange-old-clause-by_run : goal.returns-then-compare_exchange-old-clause-by_run
returns-then-compare_exchange-old-clause-by_run g c =
    λ h. end_notified_now RunNotifying c.look-old.new.pass.me c.compare_exchange.new.seat
    (still c.loop.pass.me c.look-old.new.pass.me (still c.args.pass.now.me c.loop.pass.me h c.loop.invariant.1) c.look-old.ensures.saw.0)
    ((done moves.end_notify end_notified c.look-old.result c.encode-new.result c.look-old.new.pass.me c.compare_exchange.new.seat.me
    c.decode-word.result.state c.decode-word.result.rests c.end_notify-moved.result c.decode-word.ensures c.end_notify-moved.ensures
    (c.compare_exchange.ensures.2.0 c.if-compare_exchange-old.true)).1)
