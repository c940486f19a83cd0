use Rattle.std.proofs.Common.{◌≡◌, ◌<◌, Some, length, ◌∙◌, arith}
use Rattle.std.proofs.lemmas.Option.{none-some, same_Some}
use Rattle.executor_core.specs.Entered.{place_in}
use Rattle.executor_core.proofs.Seating.{none_among, not_among, seat_read, place_past}
use Rattle.executor_core.proofs.table.entries.find.Goals as goal

pub returns-then-f-len-clause-absent : goal.returns-then-f-len-clause-absent
returns-then-f-len-clause-absent c =
    none_among _ c.args.f _ c.requires
    (place_past c.args.seats.now.items c.args.f (omega (arith, c.if-f-len.true, c.len.ensures)))

pub returns-in-None-clause-absent : goal.returns-in-None-clause-absent
returns-in-None-clause-absent c =
    let known : c.args.f < length c.args.seats.now.items = omega (arith, c.if-f-len.false, c.len.ensures) in
    let here : place_in c.args.seats.now.items c.args.f ≡ Some c.index.result.now.place =
    seat_read _ c.args.f c.index.result.now known c.index.ensures in
    not_among _ c.args.f c.index.result.now.place _ c.requires c.waker.ensures.apart here (λ found.
    none-some c.args.f (c.in-None.ensures.waker ∙ found))

pub returns-then-waker-f-clause-here : goal.returns-then-waker-f-clause-here
returns-then-waker-f-clause-here c =
    let known : c.args.f < length c.args.seats.now.items = omega (arith, c.if-f-len.false, c.len.ensures) in
    seat_read _ c.args.f c.index.result.now known c.index.ensures

pub returns-else-waker-f-clause-absent : goal.returns-else-waker-f-clause-absent
returns-else-waker-f-clause-absent c =
    let known : c.args.f < length c.args.seats.now.items = omega (arith, c.if-f-len.false, c.len.ensures) in
    let here : place_in c.args.seats.now.items c.args.f ≡ Some c.index.result.now.place =
    seat_read _ c.args.f c.index.result.now known c.index.ensures in
    not_among _ c.args.f c.index.result.now.place _ c.requires c.waker.ensures.apart here (λ found.
    c.if-waker-f.false (same_Some c.in-Some.waker.now c.args.f (c.in-Some.ensures.waker ∙ found)))
