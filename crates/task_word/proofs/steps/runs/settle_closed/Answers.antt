use Rattle.std.proofs.Common.{rules, refl, ap, sym, ◌∙◌}
use Rattle.task_moves.specs.Moves as moves
use Rattle.task_moves.specs.declared.moves.owed.Moved.{Moved}
use Rattle.task_word.specs.Word.{pack}
use Rattle.task_word.specs.Steps.{ended}
use Rattle.task_word.proofs.Moving.{done, still, few_same}
use Rattle.task_word.proofs.Running.{settles, ended_now}
use Rattle.task_word.proofs.steps.runs.settle_closed.Goals as goal

pub encode-new-requires : goal.encode-new-requires
encode-new-requires g c =
    few_same c.decode-word.result.state c.settle_closed-moved.result moves.settle_closed c.settle_closed-moved.ensures refl
    (c.look-old.ensures.saw.2 c.decode-word.result.state c.decode-word.result.rests (sym c.decode-word.ensures)).1

pub compare_exchange-requires : goal.compare_exchange-requires
compare_exchange-requires g c = let m = still c.loop.pass.me c.look-old.new.pass.me
    (still c.args.pass.now.me c.loop.pass.me c.requires.has c.loop.invariant.1) c.look-old.ensures.saw.0 in (
      search rules,
      search rules,
      settles _ _ c.look-old.new.pass.me c.look-old.result c.encode-new.result c.decode-word.result.state
          c.decode-word.result.rests c.decode-word.ensures m.0 m.1
          (c.encode-new.ensures ∙ ap (λ (z : Moved). pack z.state c.decode-word.result.rests) c.settle_closed-moved.ensures),
    )

pub returns-then-compare_exchange-old-clause-one : goal.returns-then-compare_exchange-old-clause-one
returns-then-compare_exchange-old-clause-one g c = ended_now c.look-old.new.pass.me c.compare_exchange.new.seat.me
    (still c.loop.pass.me c.look-old.new.pass.me
    (still c.args.pass.now.me c.loop.pass.me c.requires.has c.loop.invariant.1) c.look-old.ensures.saw.0)
    (done moves.settle_closed ended c.look-old.result c.encode-new.result c.look-old.new.pass.me c.compare_exchange.new.seat.me
    c.decode-word.result.state c.decode-word.result.rests c.settle_closed-moved.result c.decode-word.ensures c.settle_closed-moved.ensures
    (c.compare_exchange.ensures.2.0 c.if-compare_exchange-old.true)).1
