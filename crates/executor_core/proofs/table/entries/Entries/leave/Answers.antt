use Rattle.std.proofs.Common.{sym}
use Rattle.executor_core.proofs.Rising.{rising_without}
use Rattle.executor_core.proofs.Seating.{key_found, left_found, seated_without}
use Rattle.executor_core.proofs.Seating.{is_among, futures_without, without_absent, present_without}
use Rattle.executor_core.proofs.table.entries.Entries.leave.Goals as goal

pub invariant_of-self : goal.invariant_of-self
invariant_of-self c = (
  rw (c.leave.ensures.left, left_found _ _ _ c.in-Some.ensures.found) (seated_without _ _ _ c.self.invariant.0),
  c.self.invariant.1,
  cc,
  rw (c.leave.ensures.left, left_found _ _ _ c.in-Some.ensures.found) (rising_without 0 _ _ c.self.invariant.3),
  c.self.invariant.4,
)

pub returns-clause-was : goal.returns-clause-was
returns-clause-was c = rw (← c.self.view_is)
    (sym (is_among c.args.f _ _ (key_found c.in-Some.place c.args.f _ c.in-Some.ensures.found)))

pub returns-clause-left : goal.returns-clause-left
returns-clause-left c = λ _.
    let found = key_found c.in-Some.place c.args.f _ c.in-Some.ensures.found in
    rw (c.leave.ensures.left, left_found _ _ _ c.in-Some.ensures.found, ← c.self.view_is)
    (futures_without _ c.args.f c.in-Some.place _ c.self.invariant.0 c.in-Some.ensures.here found)

pub returns-in-None-clause-present : goal.returns-in-None-clause-present
returns-in-None-clause-present c = rw (← c.self.view_is) (without_absent c.args.f _ c.in-None.ensures.absent)

pub returns-clause-present : goal.returns-clause-present
returns-clause-present c =
    let found = key_found c.in-Some.place c.args.f _ c.in-Some.ensures.found in
    rw (c.leave.ensures.left, left_found _ _ _ c.in-Some.ensures.found, ← c.self.view_is)
    (present_without _ c.args.f c.in-Some.place _ c.self.invariant.0 c.in-Some.ensures.apart c.in-Some.ensures.here
    found)
