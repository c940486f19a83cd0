use Rattle.std.proofs.Common.{Bool, true, false, rules, refl, ap, sym, subst, ◌∙◌}
use Rattle.task_moves.specs.Moves as moves
use Rattle.task_moves.specs.declared.moves.owed.Moved.{Moved}
use Rattle.task_word.specs.Word.{pack}
use Rattle.std.specs.Prelude.{[], ◌∷◌, Some, None}
use Rattle.task_word.specs.declared.rule.Hold.TheVariants.{Registering}
use Rattle.task_word.specs.Awaiter.{end_registered}
use Rattle.task_word.specs.declared.rule.Content.TheVariants.{Awaiter}
use Rattle.task_word.specs.Steps.{Known, Is}
use Rattle.task_word.proofs.Moving.{done, still}
use Rattle.task_word.proofs.Awaiting.{WakerSlot, ends_register, end_registered_now, handed_back, back_of, few_end_register}
use Rattle.task_word.proofs.steps.awaiter.end_register.Goals as goal

pub encode-new-requires : goal.encode-new-requires
encode-new-requires g c = few_end_register c.decode-word.result.state c.end_register-moved.result c.end_register-moved.ensures
    (c.look-old.ensures.saw.2 c.decode-word.result.state c.decode-word.result.rests (sym c.decode-word.ensures)).1

pub take_awaiter-waker-requires-clause-has : goal.take_awaiter-waker-requires-clause-has
take_awaiter-waker-requires-clause-has g c = let h : Is Registering ((1, Some (Awaiter c.args.waker)) ∷ []) c.put_awaiter.new.pass.me = (
  ap (λ (z : Known _ _ _). z.0.hold) c.put_awaiter.ensures.awaiter ∙ c.requires.has.0,
  ap (λ (z : Known _ _ _). z.1) c.put_awaiter.ensures.awaiter,
) in
    let n = still c.loop.pass.me c.look-old.new.pass.me
    (still c.put_awaiter.new.pass.me c.loop.pass.me h c.loop.invariant.1) c.look-old.ensures.saw.0 in (Some c.args.waker, n.1)

pub compare_exchange-requires : goal.compare_exchange-requires
compare_exchange-requires g c = let h : Is Registering ((1, Some (Awaiter c.args.waker)) ∷ []) c.put_awaiter.new.pass.me = (
  ap (λ (z : Known _ _ _). z.0.hold) c.put_awaiter.ensures.awaiter ∙ c.requires.has.0,
  ap (λ (z : Known _ _ _). z.1) c.put_awaiter.ensures.awaiter,
) in
    let n = still c.loop.pass.me c.look-old.new.pass.me (still c.put_awaiter.new.pass.me c.loop.pass.me h c.loop.invariant.1)
    c.look-old.ensures.saw.0 in let p = c.take_awaiter-waker.ensures.place in
    let t : Is Registering ((1, None) ∷ []) c.take_awaiter-waker.new.pass.me =
    (ap (λ (z : Known _ _ _). z.0.hold) p ∙ n.0, ap (λ (z : Known _ _ _). z.1) p) in (
      search rules,
      search rules,
      ends_register _ _ c.take_awaiter-waker.new.pass.me c.look-old.result c.encode-new.result
          c.decode-word.result.state c.decode-word.result.rests c.decode-word.ensures t.0
          (subst (λ (b : Bool). WakerSlot b c.take_awaiter-waker.new.pass.me.1) (sym c.if-word.true) t.1)
          (c.encode-new.ensures ∙ ap (λ (z : Moved). pack z.state c.decode-word.result.rests) c.end_register-moved.ensures),
    )

pub returns-then-compare_exchange-old-clause-one : goal.returns-then-compare_exchange-old-clause-one
returns-then-compare_exchange-old-clause-one g c = let h : Is Registering
    ((1, Some (Awaiter c.args.waker)) ∷ []) c.put_awaiter.new.pass.me = (
      ap (λ (z : Known _ _ _). z.0.hold) c.put_awaiter.ensures.awaiter ∙ c.requires.has.0,
      ap (λ (z : Known _ _ _). z.1) c.put_awaiter.ensures.awaiter,
    ) in
    let n = still c.loop.pass.me c.look-old.new.pass.me
    (still c.put_awaiter.new.pass.me c.loop.pass.me h c.loop.invariant.1) c.look-old.ensures.saw.0 in
    let p = c.take_awaiter-waker.ensures.place in let t : Is Registering ((1, None) ∷ []) c.take_awaiter-waker.new.pass.me =
    (ap (λ (z : Known _ _ _). z.0.hold) p ∙ n.0, ap (λ (z : Known _ _ _). z.1) p) in
    end_registered_now c.take_awaiter-waker.new.pass.me c.compare_exchange.new.seat None t.1
    (done moves.end_register end_registered c.look-old.result c.encode-new.result c.take_awaiter-waker.new.pass.me
    c.compare_exchange.new.seat.me c.decode-word.result.state c.decode-word.result.rests c.end_register-moved.result c.decode-word.ensures
    c.end_register-moved.ensures (c.compare_exchange.ensures.2.0 c.if-compare_exchange-old.true)).1

pub returns-then-compare_exchange-old-clause-waker : goal.returns-then-compare_exchange-old-clause-waker
returns-then-compare_exchange-old-clause-waker g c = let h : Is Registering
    ((1, Some (Awaiter c.args.waker)) ∷ []) c.put_awaiter.new.pass.me = (
      ap (λ (z : Known _ _ _). z.0.hold) c.put_awaiter.ensures.awaiter ∙ c.requires.has.0,
      ap (λ (z : Known _ _ _). z.1) c.put_awaiter.ensures.awaiter,
    ) in
    let n = still c.loop.pass.me c.look-old.new.pass.me
    (still c.put_awaiter.new.pass.me c.loop.pass.me h c.loop.invariant.1) c.look-old.ensures.saw.0 in
    handed_back true c.decode-word.result.state c.end_register-moved.result c.args.waker _ c.end_register-moved.ensures c.if-word.true
    (back_of _ c.args.waker _ c.take_awaiter-waker.ensures.awaiter n.1)

pub compare_exchange-requires-else-word : goal.compare_exchange-requires-else-word
compare_exchange-requires-else-word g c = let h : Is Registering ((1, Some (Awaiter c.args.waker)) ∷ []) c.put_awaiter.new.pass.me = (
  ap (λ (z : Known _ _ _). z.0.hold) c.put_awaiter.ensures.awaiter ∙ c.requires.has.0,
  ap (λ (z : Known _ _ _). z.1) c.put_awaiter.ensures.awaiter,
) in
    let n = still c.loop.pass.me c.look-old.new.pass.me (still c.put_awaiter.new.pass.me c.loop.pass.me h c.loop.invariant.1)
    c.look-old.ensures.saw.0 in (
      search rules,
      search rules,
      ends_register _ _ c.look-old.new.pass.me c.look-old.result
          c.encode-new.result c.decode-word.result.state c.decode-word.result.rests c.decode-word.ensures n.0
          (subst (λ (b : Bool). WakerSlot b c.look-old.new.pass.me.1) (sym c.if-word.false) (c.args.waker, n.1))
          (c.encode-new.ensures ∙ ap (λ (z : Moved). pack z.state c.decode-word.result.rests) c.end_register-moved.ensures),
    )

pub returns-then-compare_exchange-old-2-clause-one : goal.returns-then-compare_exchange-old-2-clause-one
returns-then-compare_exchange-old-2-clause-one g c = let h : Is Registering
    ((1, Some (Awaiter c.args.waker)) ∷ []) c.put_awaiter.new.pass.me = (
      ap (λ (z : Known _ _ _). z.0.hold) c.put_awaiter.ensures.awaiter ∙ c.requires.has.0,
      ap (λ (z : Known _ _ _). z.1) c.put_awaiter.ensures.awaiter,
    ) in
    let n = still c.loop.pass.me c.look-old.new.pass.me
    (still c.put_awaiter.new.pass.me c.loop.pass.me h c.loop.invariant.1) c.look-old.ensures.saw.0 in
    end_registered_now c.look-old.new.pass.me c.compare_exchange-else-word.new.seat _ n.1
    (done moves.end_register end_registered c.look-old.result c.encode-new.result c.look-old.new.pass.me
    c.compare_exchange-else-word.new.seat.me c.decode-word.result.state c.decode-word.result.rests c.end_register-moved.result
    c.decode-word.ensures c.end_register-moved.ensures (c.compare_exchange-else-word.ensures.2.0 c.if-compare_exchange-old-2.true)).1

pub returns-then-compare_exchange-old-2-clause-waker : goal.returns-then-compare_exchange-old-2-clause-waker
returns-then-compare_exchange-old-2-clause-waker g c =
    handed_back false c.decode-word.result.state c.end_register-moved.result c.args.waker None c.end_register-moved.ensures
    c.if-word.false refl
