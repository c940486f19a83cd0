use Rattle.std.proofs.Common.{Bool, rules, refl, ap, sym, subst, ◌∙◌}
use Rattle.task_moves.specs.Moves as moves
use Rattle.task_moves.specs.declared.moves.owed.Moved.{Moved}
use Rattle.task_word.specs.Word.{pack}
use Rattle.std.specs.Prelude.{[], ◌∷◌, Some, None}
use Rattle.task_word.specs.declared.rule.Hold.TheVariants.{Running}
use Rattle.task_word.specs.declared.rule.Content.TheVariants.{Output}
use Rattle.task_word.specs.Steps.{Known, Is, ended}
use Rattle.task_word.proofs.Moving.{done, still, few_same}
use Rattle.task_word.proofs.Running.{OutputSlot, ends_ready, ended_now}
use Rattle.task_word.proofs.steps.runs.end_ready.Goals as goal

pub encode-new-requires : goal.encode-new-requires
encode-new-requires g c = few_same c.decode-word.result.state c.end_ready-moved.result moves.end_ready c.end_ready-moved.ensures refl
    (c.look-old.ensures.saw.2 c.decode-word.result.state c.decode-word.result.rests (sym c.decode-word.ensures)).1

pub compare_exchange-requires : goal.compare_exchange-requires
compare_exchange-requires g c = let h : Is Running ((0, Some (Output c.args.output)) ∷ []) c.put_output.new.pass.me = (
  ap (λ (z : Known _ _ _). z.0.hold) c.put_output.ensures.output ∙ c.requires.has.0,
  ap (λ (z : Known _ _ _). z.1) c.put_output.ensures.output,
) in
    let n = still c.loop.pass.me c.look-old.new.pass.me (still c.put_output.new.pass.me c.loop.pass.me h c.loop.invariant.1)
    c.look-old.ensures.saw.0 in let p = c.take_output-output.ensures.place in
    let t : Is Running ((0, None) ∷ []) c.take_output-output.new.pass.me =
    (ap (λ (z : Known _ _ _). z.0.hold) p ∙ n.0, ap (λ (z : Known _ _ _). z.1) p) in (
      search rules,
      search rules,
      ends_ready _ _ c.take_output-output.new.pass.me c.look-old.result c.encode-new.result
          c.decode-word.result.state c.decode-word.result.rests c.decode-word.ensures t.0
          (subst (λ (z : Moved). OutputSlot z.owed.drop_output c.take_output-output.new.pass.me.1) c.end_ready-moved.ensures
          (subst (λ (b : Bool). OutputSlot b c.take_output-output.new.pass.me.1) (sym c.if-moved.true) t.1))
          (c.encode-new.ensures ∙ ap (λ (z : Moved). pack z.state c.decode-word.result.rests) c.end_ready-moved.ensures),
    )

pub returns-then-compare_exchange-old-clause-one : goal.returns-then-compare_exchange-old-clause-one
returns-then-compare_exchange-old-clause-one g c = let h : Is Running ((0, Some (Output c.args.output)) ∷ []) c.put_output.new.pass.me = (
  ap (λ (z : Known _ _ _). z.0.hold) c.put_output.ensures.output ∙ c.requires.has.0,
  ap (λ (z : Known _ _ _). z.1) c.put_output.ensures.output,
) in
    let n = still c.loop.pass.me c.look-old.new.pass.me
    (still c.put_output.new.pass.me c.loop.pass.me h c.loop.invariant.1) c.look-old.ensures.saw.0 in
    let p = c.take_output-output.ensures.place in let t : Is Running ((0, None) ∷ []) c.take_output-output.new.pass.me =
    (ap (λ (z : Known _ _ _). z.0.hold) p ∙ n.0, ap (λ (z : Known _ _ _). z.1) p) in
    ended_now c.take_output-output.new.pass.me c.compare_exchange.new.seat.me t
    (done moves.end_ready ended c.look-old.result c.encode-new.result c.take_output-output.new.pass.me c.compare_exchange.new.seat.me
    c.decode-word.result.state c.decode-word.result.rests c.end_ready-moved.result c.decode-word.ensures c.end_ready-moved.ensures
    (c.compare_exchange.ensures.2.0 c.if-compare_exchange-old.true)).1

pub compare_exchange-requires-else-moved : goal.compare_exchange-requires-else-moved
compare_exchange-requires-else-moved g c = let h : Is Running ((0, Some (Output c.args.output)) ∷ []) c.put_output.new.pass.me = (
  ap (λ (z : Known _ _ _). z.0.hold) c.put_output.ensures.output ∙ c.requires.has.0,
  ap (λ (z : Known _ _ _). z.1) c.put_output.ensures.output,
) in
    let n = still c.loop.pass.me c.look-old.new.pass.me (still c.put_output.new.pass.me c.loop.pass.me h c.loop.invariant.1)
    c.look-old.ensures.saw.0 in (
      search rules,
      search rules,
      ends_ready _ _ c.look-old.new.pass.me c.look-old.result c.encode-new.result
          c.decode-word.result.state c.decode-word.result.rests c.decode-word.ensures n.0
          (subst (λ (z : Moved). OutputSlot z.owed.drop_output c.look-old.new.pass.me.1) c.end_ready-moved.ensures
          (subst (λ (b : Bool). OutputSlot b c.look-old.new.pass.me.1) (sym c.if-moved.false) (c.args.output, n.1)))
          (c.encode-new.ensures ∙ ap (λ (z : Moved). pack z.state c.decode-word.result.rests) c.end_ready-moved.ensures),
    )

pub returns-then-compare_exchange-old-2-clause-one : goal.returns-then-compare_exchange-old-2-clause-one
returns-then-compare_exchange-old-2-clause-one g c = let h : Is Running ((0, Some (Output c.args.output)) ∷ []) c.put_output.new.pass.me = (
  ap (λ (z : Known _ _ _). z.0.hold) c.put_output.ensures.output ∙ c.requires.has.0,
  ap (λ (z : Known _ _ _). z.1) c.put_output.ensures.output,
) in
    let n = still c.loop.pass.me c.look-old.new.pass.me
    (still c.put_output.new.pass.me c.loop.pass.me h c.loop.invariant.1) c.look-old.ensures.saw.0 in
    ended_now c.look-old.new.pass.me c.compare_exchange-else-moved.new.seat.me n
    (done moves.end_ready ended c.look-old.result c.encode-new.result c.look-old.new.pass.me c.compare_exchange-else-moved.new.seat.me
    c.decode-word.result.state c.decode-word.result.rests c.end_ready-moved.result c.decode-word.ensures c.end_ready-moved.ensures
    (c.compare_exchange-else-moved.ensures.2.0 c.if-compare_exchange-old-2.true)).1
