use Rattle.std.proofs.Common.{◌-◌, arith}
use Rattle.executor_parts.proofs.Ring.{before_within, after_within, ring_skip, keys_of_ring, length-keys_of, length-without}
use Rattle.executor_parts.proofs.order.Order.remove.Goals as goal

pub skip-requires-clause-here : goal.skip-requires-clause-here
skip-requires-clause-here c = omega (arith, c.self.invariant.within c.args.key (rw (← c.self.view_is) at c.requires))

pub skip-requires-clause-previous : goal.skip-requires-clause-previous
skip-requires-clause-previous c = omega (arith, before_within _ _ c.args.key c.self.invariant (rw (← c.self.view_is) at c.requires))

pub skip-requires-clause-next : goal.skip-requires-clause-next
skip-requires-clause-next c = omega (arith, after_within _ _ c.args.key c.self.invariant (rw (← c.self.view_is) at c.requires))

pub overflow_add-key : goal.overflow_add-key
overflow_add-key c = omega (arith, c.self.invariant.within c.args.key (rw (← c.self.view_is) at c.requires))

pub overflow_sub-self : goal.overflow_sub-self
overflow_sub-self c = omega (
  arith,
  length-without c.args.key _ (rw (← c.self.view_is) at c.requires),
  length-keys_of c.self.inside.links.items c.self.inside.len,
)

pub invariant_of-self : goal.invariant_of-self
invariant_of-self c =
    let ring = ring_skip _ c.skip.new.links.items _ c.args.key c.self.invariant (rw (← c.self.view_is) at c.requires) (omega (
      arith,
      c.skip.ensures.len,
    )) c.skip.ensures.skips in
    let keys = keys_of_ring _ _ (c.self.inside.len - 1) ring (omega (
      arith,
      length-without c.args.key _ (rw (← c.self.view_is) at c.requires),
      length-keys_of c.self.inside.links.items c.self.inside.len,
    )) in
    rw keys ring

pub returns-clause-keys : goal.returns-clause-keys
returns-clause-keys c =
    let ring = ring_skip _ c.skip.new.links.items _ c.args.key c.self.invariant (rw (← c.self.view_is) at c.requires) (omega (
      arith,
      c.skip.ensures.len,
    )) c.skip.ensures.skips in
    rw (← c.self.view_is) (keys_of_ring _ _ (c.self.inside.len - 1) ring (omega (
      arith,
      length-without c.args.key _ (rw (← c.self.view_is) at c.requires),
      length-keys_of c.self.inside.links.items c.self.inside.len,
    )))

pub returns-clause-within : goal.returns-clause-within
returns-clause-within c = omega (arith, c.self.invariant.within c.args.key (rw (← c.self.view_is) at c.requires), c.skip.ensures.len)
