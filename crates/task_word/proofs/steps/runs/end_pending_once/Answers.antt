use Rattle.std.proofs.Common.{Bool, rules, ap, sym, subst, ◌∙◌, arith}
use Rattle.std.specs.Prelude.{◌&&◌}
use Rattle.atomic_table.specs.Table.{rest}
use Rattle.task_moves.specs.Moves as moves
use Rattle.task_moves.specs.declared.moves.owed.Moved.{Moved}
use Rattle.task_word.specs.Word.{pack}
use Rattle.task_word.specs.Cell.{weight}
use Rattle.task_word.specs.Steps.{paused}
use Rattle.task_word.proofs.Moving.{done, still}
use Rattle.task_word.proofs.OncePaused.{left_queued}
use Rattle.task_word.proofs.Running.{FutureSlot, pauses, few_paused}
use Rattle.task_word.proofs.steps.runs.end_pending_once.Goals as goal

pub end_pending-moved-requires : goal.end_pending-moved-requires
end_pending-moved-requires g c = let s = (c.look-old.ensures.saw.2 c.decode-word.result.state c.decode-word.result.rests (sym c.decode-word.ensures)).0 in
    let r = ap weight c.requires.has.1.0 in omega (arith, s, r)

pub encode-new-requires : goal.encode-new-requires
encode-new-requires g c = few_paused c.decode-word.result.state c.end_pending-moved.result c.end_pending-moved.ensures
    (c.look-old.ensures.saw.2 c.decode-word.result.state c.decode-word.result.rests (sym c.decode-word.ensures)).1

pub compare_exchange-requires : goal.compare_exchange-requires
compare_exchange-requires g c = let n = still c.args.pass.now.me c.look-old.new.pass.me c.requires.has.1 c.look-old.ensures.saw.0 in (
  search rules,
  search rules,
  pauses _ _ c.look-old.new.pass.me c.look-old.result c.encode-new.result c.decode-word.result.state
      c.decode-word.result.rests c.decode-word.ensures c.if-word.false n.0
      (subst (λ (z : Moved). FutureSlot z.owed.empty_cell c.look-old.new.pass.me.1) c.end_pending-moved.ensures
      (subst (λ (b : Bool). FutureSlot b c.look-old.new.pass.me.1) (sym c.if-moved.false) (c.requires.has.0, n.1)))
      (c.encode-new.ensures ∙ ap (λ (z : Moved). pack z.state c.decode-word.result.rests) c.end_pending-moved.ensures),
)

pub returns-then-compare_exchange-old-clause-right : goal.returns-then-compare_exchange-old-clause-right
returns-then-compare_exchange-old-clause-right g c = let n = still c.args.pass.now.me c.look-old.new.pass.me c.requires.has.1 c.look-old.ensures.saw.0 in
    left_queued c.end_pending-moved.result.owed.schedule _ _ c.compare_exchange.new.seat (ap rest n.1)
    (ap (λ (z : Bool). z && c.end_pending-moved.result.state.awaiter) c.if-moved.false)
    (done moves.end_pending paused c.look-old.result c.encode-new.result c.look-old.new.pass.me c.compare_exchange.new.seat.me
    c.decode-word.result.state c.decode-word.result.rests c.end_pending-moved.result c.decode-word.ensures
    c.end_pending-moved.ensures (c.compare_exchange.ensures.2.0 c.if-compare_exchange-old.true)).1
