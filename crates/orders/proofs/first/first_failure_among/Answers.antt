-- One more order was right; or all were, where no seed is left.
use Rattle.std.proofs.Common.{◌≡◌, ◌+◌, ◌-◌, ◌≤◌, arith, rules}
use Rattle.std.specs.Fn.{CalledAt}
use Rattle.orders.specs.declared.failure.End.TheVariants.{Right}
use Rattle.orders.proofs.Seen.{none_is_left, one_more_right}
use Rattle.orders.proofs.first.first_failure_among.Goals as goal

pub loop-number-preserved : goal.loop-number-preserved
loop-number-preserved g c =
    let from : c.args.seeds.start ≤ c.loop-number.number = search rules in
    let right : c.in_ok-played.played.end ≡ Right = search rules in
    let few : c.loop-number.number + 1 - c.args.seeds.start ≤ c.args.seeds.end - c.args.seeds.start = omega (arith, c.loop-number-test.true) in (
      c.play.ensures.makes,
      c.play.ensures.checks,
      few,
      one_more_right (CalledAt g.C.FnMut) _ _ _ _ _ _ from right c.loop-number.invariant.3 c.in_ok-played.ensures.asks,
    )

pub returns-clause-none : goal.returns-clause-none
returns-clause-none g c =
    none_is_left (CalledAt g.C.FnMut) _ _ _ _ _ c.loop-number.invariant.2 c.loop-number-test.false c.loop-number.invariant.3
