use Rattle.std.proofs.Common.{◌<◌, length, arith}
use Rattle.slab.specs.Slab.{HasRoomFor}
use Rattle.executor_parts.specs.Places.{entries_of}
use Rattle.executor_parts.proofs.Placing.{length-entries, has_all, keeps_all}
use Rattle.executor_parts.proofs.places.Places.reserve.Goals as goal

pub returns-in_err-reserve-clause-all_room : goal.returns-in_err-reserve-clause-all_room
returns-in_err-reserve-clause-all_room g c = λ below all.
    let fits = has_all c.self.inside.limit c.self.inside.slab.capacity c.self.inside.order.room (rw (← c.self.view_is) at all) in
    let fewer : length (entries_of c.self.inside.slab c.self.inside.order.keys) < c.self.inside.limit = rw (← c.self.view_is) at below in
    let had : HasRoomFor c.self.inside.slab 1 = omega (
      arith,
      fits.0,
      fewer,
      length-entries c.self.inside.slab c.self.inside.order.keys c.self.invariant.0,
    ) in
    rw (c.reserve.ensures.had_room had) (keeps_all c.self.inside.limit c.self.inside.slab.capacity c.self.inside.order.room fits.0 fits.1)

pub returns-clause-all_room : goal.returns-clause-all_room
returns-clause-all_room g c = λ below all.
    let fits = has_all c.self.inside.limit c.self.inside.slab.capacity c.self.inside.order.room (rw (← c.self.view_is) at all) in
    let fewer : length (entries_of c.self.inside.slab c.self.inside.order.keys) < c.self.inside.limit = rw (← c.self.view_is) at below in
    let had : HasRoomFor c.self.inside.slab 1 = omega (
      arith,
      fits.0,
      fewer,
      length-entries c.self.inside.slab c.self.inside.order.keys c.self.invariant.0,
    ) in
    rw (c.reserve.ensures.had_room had) (keeps_all c.self.inside.limit c.self.inside.slab.capacity c.reserve_to.new.self.room fits.0
    (omega (arith, fits.1, c.reserve_to.ensures.grows)))
