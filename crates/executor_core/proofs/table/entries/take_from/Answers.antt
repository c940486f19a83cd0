use Rattle.executor_core.proofs.Seating.{key_found, set_found, seated_with, futures_with, present_out, without_absent}
use Rattle.executor_core.proofs.table.entries.take_from.Goals as goal

pub returns-in-None-clause-out : goal.returns-in-None-clause-out
returns-in-None-clause-out c = without_absent c.args.f _ c.in-None.ensures.absent

pub returns-in-Some-clause-seated : goal.returns-in-Some-clause-seated
returns-in-Some-clause-seated c =
    rw (c.take.ensures.out, set_found _ _ _ _ c.in-Some.ensures.found) (seated_with _ _ _ _ c.requires)

pub returns-in-Some-clause-futures : goal.returns-in-Some-clause-futures
returns-in-Some-clause-futures c =
    rw (c.take.ensures.out, set_found _ _ _ _ c.in-Some.ensures.found) (futures_with _ _ _)

pub returns-in-Some-clause-out : goal.returns-in-Some-clause-out
returns-in-Some-clause-out c =
    let found = key_found c.in-Some.place c.args.f _ c.in-Some.ensures.found in
    rw (c.take.ensures.out, set_found _ _ _ _ c.in-Some.ensures.found)
    (present_out _ c.args.f c.in-Some.place _ c.requires c.in-Some.ensures.apart c.in-Some.ensures.here found)
