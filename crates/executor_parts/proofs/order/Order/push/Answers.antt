use Rattle.std.proofs.Common.{◌+◌, arith}
use Rattle.std.proofs.lemmas.List.{length_push}
use Rattle.executor_parts.specs.Order.{keys_of}
use Rattle.executor_parts.proofs.Ring.{last_within, new_not_last, no_more, ring_push, keys_of_ring, length-keys_of}
use Rattle.executor_parts.proofs.order.Order.push.Goals as goal

pub insert-requires-clause-here : goal.insert-requires-clause-here
insert-requires-clause-here c = omega (arith, rw (← c.self.view_is) at c.requires.room)

pub insert-requires-clause-last : goal.insert-requires-clause-last
insert-requires-clause-last c = omega (arith, last_within _ _ c.self.invariant (omega (arith, rw (← c.self.view_is) at c.requires.room)))

pub insert-requires-clause-new : goal.insert-requires-clause-new
insert-requires-clause-new c = new_not_last _ _ c.args.key c.self.invariant (rw (← c.self.view_is) at c.requires.new)

pub overflow_add-self : goal.overflow_add-self
overflow_add-self c = omega (arith, no_more _ _ c.self.invariant, length-keys_of c.self.inside.links.items c.self.inside.len)

pub invariant_of-self : goal.invariant_of-self
invariant_of-self c =
    let ring = ring_push _ c.insert.new.links.items _ c.args.key c.self.invariant (rw (← c.self.view_is) at c.requires.new)
    (omega (arith, rw (← c.self.view_is) at c.requires.room)) (omega (arith, c.insert.ensures.len)) c.insert.ensures.inserts in
    let keys = keys_of_ring _ _ (c.self.inside.len + 1) ring (omega (
      arith,
      length_push (keys_of c.self.inside.links.items c.self.inside.len) c.args.key,
      length-keys_of c.self.inside.links.items c.self.inside.len,
    )) in
    rw keys ring

pub returns-clause-keys : goal.returns-clause-keys
returns-clause-keys c =
    let ring = ring_push _ c.insert.new.links.items _ c.args.key c.self.invariant (rw (← c.self.view_is) at c.requires.new)
    (omega (arith, rw (← c.self.view_is) at c.requires.room)) (omega (arith, c.insert.ensures.len)) c.insert.ensures.inserts in
    rw (← c.self.view_is) (keys_of_ring _ _ (c.self.inside.len + 1) ring (omega (
      arith,
      length_push (keys_of c.self.inside.links.items c.self.inside.len) c.args.key,
      length-keys_of c.self.inside.links.items c.self.inside.len,
    )))
