use Rattle.std.proofs.Common.{Bool, rules, ap, sym, subst, ◌∙◌, arith}
use Rattle.task_moves.specs.Moves as moves
use Rattle.task_moves.specs.declared.moves.owed.Moved.{Moved}
use Rattle.task_word.specs.Word.{pack}
use Rattle.std.specs.Prelude.{[], ◌∷◌, ◌&&◌, None, is_some}
use Rattle.atomic_table.specs.Table.{rest}
use Rattle.task_word.specs.declared.rule.Hold.TheVariants.{Running}
use Rattle.task_word.specs.Cell.{weight}
use Rattle.task_word.specs.Steps.{Known, Is, keeps_all, turns, turned_back, paused}
use Rattle.task_word.proofs.Moving.{done, still}
use Rattle.task_word.proofs.Views.{true_not}
use Rattle.task_word.proofs.Running.{FutureSlot, looks_back, pauses, closed_back, open_back, unfinished, few_paused}
use Rattle.task_word.proofs.steps.runs.end_pending.Goals as goal

pub load-old-requires : goal.load-old-requires
load-old-requires g c = let m = still c.args.pass.now.me c.loop.pass.me c.requires.has.1 c.loop.invariant.1 in
    (search rules, search rules, looks_back _ _ c.loop.pass.me m.0)

pub end_pending-moved-requires : goal.end_pending-moved-requires
end_pending-moved-requires g c = let m = still c.args.pass.now.me c.loop.pass.me c.requires.has.1 c.loop.invariant.1 in
    let s = (c.load-old.ensures.2.2 c.decode-word.result.state c.decode-word.result.rests (sym c.decode-word.ensures)).0 in
    let r = ap weight m.0 in omega (arith, s, r)

pub returns-then-word-clause-right : goal.returns-then-word-clause-right
returns-then-word-clause-right g c = let m = still c.args.pass.now.me c.loop.pass.me c.requires.has.1 c.loop.invariant.1 in
    let w : turned_back c.loop.pass.me c.load-old.new.seat.me =
    subst (λ (b : Bool). turns b turned_back c.loop.pass.me c.load-old.new.seat.me) c.if-word.true
    (c.load-old.ensures.2.0 c.decode-word.result.state c.decode-word.result.rests (sym c.decode-word.ensures)) in
    closed_back c.decode-word.result.state c.end_pending-moved.result _ c.load-old.new.seat c.end_pending-moved.ensures c.if-word.true
    (c.requires.has.0, (w.0, w.1 ∙ m.1))

pub encode-new-requires : goal.encode-new-requires
encode-new-requires g c = few_paused c.decode-word.result.state c.end_pending-moved.result c.end_pending-moved.ensures
    (c.load-old.ensures.2.2 c.decode-word.result.state c.decode-word.result.rests (sym c.decode-word.ensures)).1

pub take_future-future-requires-clause-has : goal.take_future-future-requires-clause-has
take_future-future-requires-clause-has g c = let m = still c.args.pass.now.me c.loop.pass.me c.requires.has.1 c.loop.invariant.1 in
    let k : keeps_all c.loop.pass.me c.load-old.new.seat.me =
    subst (λ (b : Bool). turns b turned_back c.loop.pass.me c.load-old.new.seat.me) c.if-word.false
    (c.load-old.ensures.2.0 c.decode-word.result.state c.decode-word.result.rests (sym c.decode-word.ensures)) in
    let n = still c.loop.pass.me c.load-old.new.seat.me m k in (c.requires.has.0, n.1)

pub compare_exchange-requires : goal.compare_exchange-requires
compare_exchange-requires g c = let m = still c.args.pass.now.me c.loop.pass.me c.requires.has.1 c.loop.invariant.1 in
    let k : keeps_all c.loop.pass.me c.load-old.new.seat.me =
    subst (λ (b : Bool). turns b turned_back c.loop.pass.me c.load-old.new.seat.me) c.if-word.false
    (c.load-old.ensures.2.0 c.decode-word.result.state c.decode-word.result.rests (sym c.decode-word.ensures)) in
    let n = still c.loop.pass.me c.load-old.new.seat.me m k in let p = c.take_future-future.ensures.place in
    let t : Is Running ((0, None) ∷ []) c.take_future-future.new.pass.me =
    (ap (λ (z : Known _ _ _). z.0.hold) p ∙ n.0, ap (λ (z : Known _ _ _). z.1) p) in (
      search rules,
      search rules,
      pauses _ _ c.take_future-future.new.pass.me c.load-old.result c.encode-new.result
          c.decode-word.result.state c.decode-word.result.rests c.decode-word.ensures c.if-word.false t.0
          (subst (λ (z : Moved). FutureSlot z.owed.empty_cell c.take_future-future.new.pass.me.1) c.end_pending-moved.ensures
          (subst (λ (b : Bool). FutureSlot b c.take_future-future.new.pass.me.1) (sym c.if-moved.true) t.1))
          (c.encode-new.ensures ∙ ap (λ (z : Moved). pack z.state c.decode-word.result.rests) c.end_pending-moved.ensures),
    )

pub returns-then-compare_exchange-old-clause-right : goal.returns-then-compare_exchange-old-clause-right
returns-then-compare_exchange-old-clause-right g c = let m =
    still c.args.pass.now.me c.loop.pass.me c.requires.has.1 c.loop.invariant.1 in
    let k : keeps_all c.loop.pass.me c.load-old.new.seat.me =
    subst (λ (b : Bool). turns b turned_back c.loop.pass.me c.load-old.new.seat.me) c.if-word.false
    (c.load-old.ensures.2.0 c.decode-word.result.state c.decode-word.result.rests (sym c.decode-word.ensures)) in
    let n = still c.loop.pass.me c.load-old.new.seat.me m k in let p = c.take_future-future.ensures.place in
    let t : Is Running ((0, None) ∷ []) c.take_future-future.new.pass.me =
    (ap (λ (z : Known _ _ _). z.0.hold) p ∙ n.0, ap (λ (z : Known _ _ _). z.1) p) in
    open_back c.decode-word.result.state c.end_pending-moved.result _ c.take_future-future.new.pass.me c.compare_exchange.new.seat
    c.end_pending-moved.ensures c.if-word.false (sym (ap (λ (z : Bool). z && c.end_pending-moved.result.state.awaiter) c.if-moved.true))
    (ap rest t.1) (done moves.end_pending paused c.load-old.result c.encode-new.result c.take_future-future.new.pass.me
    c.compare_exchange.new.seat.me c.decode-word.result.state c.decode-word.result.rests c.end_pending-moved.result c.decode-word.ensures
    c.end_pending-moved.ensures (c.compare_exchange.ensures.2.0 c.if-compare_exchange-old.true)).1

pub loop-preserved-then-moved : goal.loop-preserved-then-moved
loop-preserved-then-moved g c = let k : keeps_all c.loop.pass.me c.load-old.new.seat.me =
    subst (λ (b : Bool). turns b turned_back c.loop.pass.me c.load-old.new.seat.me) c.if-word.false
    (c.load-old.ensures.2.0 c.decode-word.result.state c.decode-word.result.rests (sym c.decode-word.ensures)) in
    let b : keeps_all c.take_future-future.new.pass.me c.compare_exchange.new.seat.me =
    (c.compare_exchange.ensures.2.1 c.if-compare_exchange-old.false).0 in let i = c.loop.invariant.1 in
    let p = c.take_future-future.ensures.place in let q = c.put_future.ensures.future in (
      (
        c.put_future.ensures.same.0 ∙ c.compare_exchange.ensures.0 ∙ c.take_future-future.ensures.same.0 ∙ c.load-old.ensures.0
            ∙ c.loop.invariant.0.0,
        c.put_future.ensures.same.1 ∙ c.compare_exchange.ensures.1 ∙ c.take_future-future.ensures.same.1
            ∙ c.load-old.ensures.1 ∙ c.loop.invariant.0.1,
      ),
      (
        ap (λ (z : Known _ _ _). z.0.hold) q ∙ b.0 ∙ ap (λ (z : Known _ _ _). z.0.hold) p
            ∙ k.0 ∙ i.0,
        ap (λ (z : Known _ _ _). z.1) q ∙ sym c.take_future-future.ensures.future ∙ k.1 ∙ i.1,
      ),
    )

pub compare_exchange-requires-else-moved : goal.compare_exchange-requires-else-moved
compare_exchange-requires-else-moved g c = let m = still c.args.pass.now.me c.loop.pass.me c.requires.has.1 c.loop.invariant.1 in
    let k : keeps_all c.loop.pass.me c.load-old.new.seat.me =
    subst (λ (b : Bool). turns b turned_back c.loop.pass.me c.load-old.new.seat.me) c.if-word.false
    (c.load-old.ensures.2.0 c.decode-word.result.state c.decode-word.result.rests (sym c.decode-word.ensures)) in
    let n = still c.loop.pass.me c.load-old.new.seat.me m k in (
      search rules,
      search rules,
      pauses _ _ c.load-old.new.seat.me c.load-old.result c.encode-new.result c.decode-word.result.state
          c.decode-word.result.rests c.decode-word.ensures c.if-word.false n.0
          (subst (λ (z : Moved). FutureSlot z.owed.empty_cell c.load-old.new.seat.me.1) c.end_pending-moved.ensures
          (subst (λ (b : Bool). FutureSlot b c.load-old.new.seat.me.1) (sym c.if-moved.false) (c.requires.has.0, n.1)))
          (c.encode-new.ensures ∙ ap (λ (z : Moved). pack z.state c.decode-word.result.rests) c.end_pending-moved.ensures),
    )

pub returns-then-compare_exchange-old-2-clause-right : goal.returns-then-compare_exchange-old-2-clause-right
returns-then-compare_exchange-old-2-clause-right g c = let m =
    still c.args.pass.now.me c.loop.pass.me c.requires.has.1 c.loop.invariant.1 in
    let k : keeps_all c.loop.pass.me c.load-old.new.seat.me =
    subst (λ (b : Bool). turns b turned_back c.loop.pass.me c.load-old.new.seat.me) c.if-word.false
    (c.load-old.ensures.2.0 c.decode-word.result.state c.decode-word.result.rests (sym c.decode-word.ensures)) in
    let n = still c.loop.pass.me c.load-old.new.seat.me m k in
    open_back c.decode-word.result.state c.end_pending-moved.result _ c.load-old.new.seat.me c.compare_exchange-else-moved.new.seat
    c.end_pending-moved.ensures c.if-word.false (sym (ap (λ (z : Bool). z && c.end_pending-moved.result.state.awaiter) c.if-moved.false))
    (ap rest n.1) (done moves.end_pending paused c.load-old.result c.encode-new.result c.load-old.new.seat.me
    c.compare_exchange-else-moved.new.seat.me c.decode-word.result.state c.decode-word.result.rests c.end_pending-moved.result
    c.decode-word.ensures c.end_pending-moved.ensures (c.compare_exchange-else-moved.ensures.2.0 c.if-compare_exchange-old-2.true)).1

pub loop-preserved : goal.loop-preserved
loop-preserved g c = let k : keeps_all c.loop.pass.me c.load-old.new.seat.me =
    subst (λ (b : Bool). turns b turned_back c.loop.pass.me c.load-old.new.seat.me) c.if-word.false
    (c.load-old.ensures.2.0 c.decode-word.result.state c.decode-word.result.rests (sym c.decode-word.ensures)) in
    let b : keeps_all c.load-old.new.seat.me c.compare_exchange-else-moved.new.seat.me =
    (c.compare_exchange-else-moved.ensures.2.1 c.if-compare_exchange-old-2.false).0 in let i = c.loop.invariant.1 in (
      (
        c.compare_exchange-else-moved.ensures.0 ∙ c.load-old.ensures.0 ∙ c.loop.invariant.0.0,
        c.compare_exchange-else-moved.ensures.1
            ∙ c.load-old.ensures.1 ∙ c.loop.invariant.0.1,
      ),
      (b.0 ∙ k.0 ∙ i.0, b.1 ∙ k.1 ∙ i.1),
    )

pub returns-then-word-clause-kept : goal.returns-then-word-clause-kept
returns-then-word-clause-kept g c = λ _. let w : turned_back c.loop.pass.me c.load-old.new.seat.me =
    subst (λ (b : Bool). turns b turned_back c.loop.pass.me c.load-old.new.seat.me) c.if-word.true
    (c.load-old.ensures.2.0 c.decode-word.result.state c.decode-word.result.rests (sym c.decode-word.ensures)) in
    w.1 ∙ c.loop.invariant.1.1

pub returns-then-compare_exchange-old-clause-kept : goal.returns-then-compare_exchange-old-clause-kept
returns-then-compare_exchange-old-clause-kept g c = λ s. true_not s
    (ap is_some (unfinished c.decode-word.result.state c.end_pending-moved.result c.end_pending-moved.ensures c.if-word.false))

pub returns-then-compare_exchange-old-2-clause-kept : goal.returns-then-compare_exchange-old-2-clause-kept
returns-then-compare_exchange-old-2-clause-kept g c = λ s. true_not s
    (ap is_some (unfinished c.decode-word.result.state c.end_pending-moved.result c.end_pending-moved.ensures c.if-word.false))

pub returns-then-compare_exchange-old-clause-back : goal.returns-then-compare_exchange-old-clause-back
returns-then-compare_exchange-old-clause-back g c = let k : keeps_all c.loop.pass.me c.load-old.new.seat.me =
    subst (λ (b : Bool). turns b turned_back c.loop.pass.me c.load-old.new.seat.me) c.if-word.false
    (c.load-old.ensures.2.0 c.decode-word.result.state c.decode-word.result.rests (sym c.decode-word.ensures)) in
    sym (k.1 ∙ c.loop.invariant.1.1) ∙ c.take_future-future.ensures.future
