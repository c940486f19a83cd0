use Rattle.std.proofs.Common.{◌≡◌, ◌<◌, true, Some, length, sym, subst, arith}
use Rattle.executor_core.specs.declared.table.entries.Seat.{Seat}
use Rattle.executor_core.specs.Entered.{IsRising, place_in}
use Rattle.executor_core.proofs.Seating.{seated_written, seat_read, insides_set, length-insides}
use Rattle.executor_core.proofs.table.entries.Entries.put_back.Goals as goal

pub invariant_of-self : goal.invariant_of-self
invariant_of-self c =
    let known : c.args.f < length c.self.inside.seats.items =
    omega (arith, rw (← c.self.view_is) at c.requires, length-insides c.self.inside.seats.items) in
    let seat : Seat = record { place = c.index_mut.result.now.place; inside = true } in
    let same : place_in c.self.inside.seats.items c.args.f ≡ Some seat.place =
    seat_read c.self.inside.seats.items c.args.f c.index_mut.result.now known c.index_mut.ensures.value in (
      seated_written c.self.inside.seats.items c.args.f seat _ same c.put_into.ensures.seated,
      seated_written c.self.inside.seats.items c.args.f seat _ same c.self.invariant.1,
      cc,
      subst (IsRising 0) (sym c.put_into.ensures.futures) c.self.invariant.3,
      c.self.invariant.4,
    )

pub returns-clause-inside : goal.returns-clause-inside
returns-clause-inside c =
    rw (← c.self.view_is)
    (insides_set c.self.inside.seats.items c.args.f (record { place = c.index_mut.result.now.place; inside = true }))
