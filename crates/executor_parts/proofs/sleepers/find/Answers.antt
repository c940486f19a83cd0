use Rattle.std.proofs.Common.{◌≡◌, ◌+◌, ◌-◌, None, drop, sym, ap, ◌∙◌, subst, arith}
use Rattle.executor_parts.specs.Sleepers.{position_of}
use Rattle.executor_parts.proofs.Sleeping.{position_here}
use Rattle.executor_parts.proofs.sleepers.find.Goals as goal

pub returns-then-wakers-at-clause-place : goal.returns-then-wakers-at-clause-place
returns-then-wakers-at-clause-place g c =
    let next : c.loop-at.at ≡ c.loop-at.at - 1 + 1 = omega (arith, c.loop-at-test.true) in
    let past : position_of c.args.number (drop (c.loop-at.at - 1 + 1) c.args.wakers.now) ≡ None =
    subst (λ n. position_of c.args.number (drop n c.args.wakers.now) ≡ None) next c.loop-at.invariant.past in
    sym (position_here c.args.number (c.loop-at.at - 1) c.args.wakers.now c.index-wakers-at.result (omega (
      arith,
      c.loop-at-test.true,
      c.loop-at.invariant.within,
    )) (sym c.index-wakers-at.is) (ap (λ p. p.0) c.index-wakers-at.is ∙ c.if-wakers-at.true) past)
