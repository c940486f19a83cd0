use Rattle.std.proofs.Common.{Bool, rules, ap, sym, subst, ◌∙◌}
use Rattle.task_moves.specs.Moves as moves
use Rattle.task_moves.specs.declared.moves.owed.Moved.{Moved}
use Rattle.task_word.specs.Word.{pack}
use Rattle.std.specs.Prelude.{ℕ, List, ◌∷◌, Some}
use Rattle.task_word.specs.declared.rule.Content.TheVariants.{Future}
use Rattle.task_word.specs.Cell.{Slot}
use Rattle.task_word.specs.Steps.{keeps_all, turns, turned_up, began}
use Rattle.task_word.proofs.Moving.{done, still}
use Rattle.task_word.proofs.Running.{begins, looks_up, closed_up, open_up, few_begun}
use Rattle.task_word.proofs.steps.runs.take_up.Goals as goal

pub load-old-requires : goal.load-old-requires
load-old-requires g c = let m = still c.args.pass.now.me c.loop.pass.me c.requires.has c.loop.invariant.1 in
    (search rules, search rules, looks_up _ _ c.loop.pass.me m.0)

pub returns-then-word-clause-right : goal.returns-then-word-clause-right
returns-then-word-clause-right g c = let m = still c.args.pass.now.me c.loop.pass.me c.requires.has c.loop.invariant.1 in
    let w : turned_up c.loop.pass.me c.load-old.new.seat.me =
    subst (λ (b : Bool). turns b turned_up c.loop.pass.me c.load-old.new.seat.me) c.if-word.true
    (c.load-old.ensures.2.0 c.decode-word.result.state c.decode-word.result.rests (sym c.decode-word.ensures)) in
    closed_up c.decode-word.result.state c.take_up-moved.result c.load-old.new.seat c.take_up-moved.ensures c.if-word.true
    (w.0, (w.1.0, w.1.1 ∙ ap (λ (z : List (ℕ × Slot _ _ _)). (0, Some (Future w.0)) ∷ z) m.1))

pub encode-new-requires : goal.encode-new-requires
encode-new-requires g c = few_begun c.decode-word.result.state c.take_up-moved.result c.take_up-moved.ensures
    (c.load-old.ensures.2.2 c.decode-word.result.state c.decode-word.result.rests (sym c.decode-word.ensures)).1

pub compare_exchange-requires : goal.compare_exchange-requires
compare_exchange-requires g c = let m = still c.args.pass.now.me c.loop.pass.me c.requires.has c.loop.invariant.1 in
    let k : keeps_all c.loop.pass.me c.load-old.new.seat.me =
    subst (λ (b : Bool). turns b turned_up c.loop.pass.me c.load-old.new.seat.me) c.if-word.false
    (c.load-old.ensures.2.0 c.decode-word.result.state c.decode-word.result.rests (sym c.decode-word.ensures)) in
    let n = still c.loop.pass.me c.load-old.new.seat.me m k in (
      search rules,
      search rules,
      begins _ _ c.load-old.new.seat.me c.load-old.result c.encode-new.result c.decode-word.result.state
          c.decode-word.result.rests c.decode-word.ensures c.if-word.false n.0
          (c.encode-new.ensures ∙ ap (λ (z : Moved). pack z.state c.decode-word.result.rests) c.take_up-moved.ensures),
    )

pub returns-then-compare_exchange-old-clause-right : goal.returns-then-compare_exchange-old-clause-right
returns-then-compare_exchange-old-clause-right g c = let m = still c.args.pass.now.me c.loop.pass.me c.requires.has c.loop.invariant.1 in
    let k : keeps_all c.loop.pass.me c.load-old.new.seat.me =
    subst (λ (b : Bool). turns b turned_up c.loop.pass.me c.load-old.new.seat.me) c.if-word.false
    (c.load-old.ensures.2.0 c.decode-word.result.state c.decode-word.result.rests (sym c.decode-word.ensures)) in
    let n = still c.loop.pass.me c.load-old.new.seat.me m k in
    let w : began c.take_up-moved.result c.load-old.new.seat.me c.compare_exchange.new.seat.me =
    (done moves.take_up began c.load-old.result c.encode-new.result c.load-old.new.seat.me c.compare_exchange.new.seat.me
    c.decode-word.result.state c.decode-word.result.rests c.take_up-moved.result c.decode-word.ensures c.take_up-moved.ensures
    (c.compare_exchange.ensures.2.0 c.if-compare_exchange-old.true)).1 in
    open_up c.decode-word.result.state c.take_up-moved.result c.compare_exchange.new.seat c.take_up-moved.ensures c.if-word.false
    (w.0, (w.1.0, w.1.1 ∙ ap (λ (z : List (ℕ × Slot _ _ _)). (0, Some (Future w.0)) ∷ z) n.1))

pub loop-preserved : goal.loop-preserved
loop-preserved g c = let k : keeps_all c.loop.pass.me c.load-old.new.seat.me =
    subst (λ (b : Bool). turns b turned_up c.loop.pass.me c.load-old.new.seat.me) c.if-word.false
    (c.load-old.ensures.2.0 c.decode-word.result.state c.decode-word.result.rests (sym c.decode-word.ensures)) in
    let b : keeps_all c.load-old.new.seat.me c.compare_exchange.new.seat.me =
    (c.compare_exchange.ensures.2.1 c.if-compare_exchange-old.false).0 in let i = c.loop.invariant.1 in (
      (
        c.compare_exchange.ensures.0 ∙ c.load-old.ensures.0 ∙ c.loop.invariant.0.0,
        c.compare_exchange.ensures.1 ∙ c.load-old.ensures.1
            ∙ c.loop.invariant.0.1,
      ),
      (b.0 ∙ k.0 ∙ i.0, b.1 ∙ k.1 ∙ i.1),
    )
