use Rattle.std.proofs.Common.{◌<◌, length, ap, sym, ◌∙◌, arith}
use Rattle.executor_parts.proofs.Placing.{length-entries, no_room}
use Rattle.executor_parts.proofs.places.Places.vacancy.Goals as goal

pub returns-then-len-self-clause-refused : goal.returns-then-len-self-clause-refused
returns-then-len-self-clause-refused g c =
    rw (← c.self.view_is) (omega (
      arith,
      c.if-len-self.true,
      c.len.ensures,
      length-entries c.self.inside.slab c.self.inside.order.keys c.self.invariant.0,
    ))

pub returns-then-is_err-clause-all_room : goal.returns-then-is_err-clause-all_room
returns-then-is_err-clause-all_room g c =
    let below : length c.args.self.now.entries < c.args.self.now.limit =
    rw (← c.self.view_is) (omega (
      arith,
      c.if-len-self.false,
      c.len.ensures,
      length-entries c.self.inside.slab c.self.inside.order.keys c.self.invariant.0,
    )) in
    λ all. c.reserve.ensures.all_room below all

pub returns-then-is_err-clause-refused : goal.returns-then-is_err-clause-refused
returns-then-is_err-clause-refused g c =
    let below : length c.args.self.now.entries < c.args.self.now.limit =
    rw (← c.self.view_is) (omega (
      arith,
      c.if-len-self.false,
      c.len.ensures,
      length-entries c.self.inside.slab c.self.inside.order.keys c.self.invariant.0,
    )) in
    (below, no_room _ c.reserve.result c.reserve.ensures.succeeds (sym c.is_err.ensures.value ∙ c.if-is_err.true))

pub returns-clause-all_room : goal.returns-clause-all_room
returns-clause-all_room g c =
    let below : length c.args.self.now.entries < c.args.self.now.limit =
    rw (← c.self.view_is) (omega (
      arith,
      c.if-len-self.false,
      c.len.ensures,
      length-entries c.self.inside.slab c.self.inside.order.keys c.self.invariant.0,
    )) in
    λ all. c.reserve.ensures.all_room below all

pub returns-clause-vacancy : goal.returns-clause-vacancy
returns-clause-vacancy g c =
    let below : length c.args.self.now.entries < c.args.self.now.limit =
    rw (← c.self.view_is) (omega (
      arith,
      c.if-len-self.false,
      c.len.ensures,
      length-entries c.self.inside.slab c.self.inside.order.keys c.self.invariant.0,
    )) in
    record {
      place = rw c.vacant_key.ensures.value (ap (λ s. s.next) c.self-2.view_is);
      below = rw (c.reserve.ensures.entries, c.reserve.ensures.limit) below;
      room = grind (arith, c.reserve.ensures.room, c.is_err.ensures.value, c.if-is_err.false);
    }
