use Rattle.std.proofs.Common.{◌≡◌, true, length, sym, ◌∙◌, arith}
use Rattle.executor_core.specs.declared.table.entries.Seat.{Seat}
use Rattle.executor_core.proofs.Rising.{rising_push}
use Rattle.executor_core.proofs.Seating.{seated_push, seated_more, place_new, length-insides, present_push}
use Rattle.executor_core.proofs.table.entries.Entries.enter.Goals as goal

pub invariant_of-self : goal.invariant_of-self
invariant_of-self c =
    let next : length c.self.inside.seats.items ≡ c.args.f =
    omega (arith, rw (← c.self.view_is) at c.requires.next, length-insides c.self.inside.seats.items) in
    let seat : Seat = record { place = c.place-place.result; inside = true } in
    let here = place_new c.self.inside.seats.items seat c.args.f next in
    rw (c.push_reserved.ensures.items, c.enter.ensures.entered) (
      seated_push _ _ _ (rw (← c.place-place.ensures) here)
          (seated_more c.self.inside.seats.items seat _ c.self.invariant.0),
      seated_more c.self.inside.seats.items seat _ c.self.invariant.1,
      c.self.invariant.2 ∙ sym c.enter.ensures.limit,
      rising_push c.self.inside.seats.items _ _ 0 c.self.invariant.0 (sym next) (omega arith) c.self.invariant.3,
      c.self.invariant.4,
    )

pub returns-clause-present : goal.returns-clause-present
returns-clause-present c =
    rw (c.enter.ensures.entered, ← c.self.view_is) (present_push c.self.inside.table.entries _ _ (record {}) c.args.f)
