use Rattle.std.proofs.Common.{◌≡◌, suc, false, Some, subst, arith}
use Rattle.executor_core.specs.declared.table.entries.Seat.{Seat}
use Rattle.executor_core.specs.Entered.{place_in, AreSeated, IsRising, futures_of}
use Rattle.executor_core.proofs.Rising.{rising_less}
use Rattle.executor_core.proofs.Seating.{seated_written, seat_read, is_known, insides_set}
use Rattle.executor_core.proofs.table.entries.Entries.leave_first.Goals as goal

pub invariant_of-self-2 : goal.invariant_of-self-2
invariant_of-self-2 c =
    let seated = subst (AreSeated c.self.inside.seats.items) c.in-Some.ensures.some.2 c.self.invariant.1 in
    let rising = subst (λ es. IsRising 0 (futures_of es)) c.in-Some.ensures.some.2 c.self.invariant.4 in
    let known = is_known c.self.inside.seats.items c.in-Some.parts.1 _ seated.0 in
    let seat : Seat = record { place = c.index_mut.result.now.place; inside = false } in
    let same : place_in c.self.inside.seats.items c.in-Some.parts.1 ≡ Some seat.place =
    seat_read c.self.inside.seats.items c.in-Some.parts.1 c.index_mut.result.now known c.index_mut.ensures.value in (
      seated_written c.self.inside.seats.items c.in-Some.parts.1 seat _ same c.self.invariant.0,
      seated_written c.self.inside.seats.items c.in-Some.parts.1 seat _ same seated.1,
      cc,
      c.self.invariant.3,
      rising_less 0 (suc c.in-Some.parts.1) _ (omega arith) rising.1,
    )

pub returns-clause-inside : goal.returns-clause-inside
returns-clause-inside c =
    rw (← c.self.view_is)
    (insides_set c.self.inside.seats.items c.in-Some.parts.1
    (record { place = c.index_mut.result.now.place; inside = false }))
