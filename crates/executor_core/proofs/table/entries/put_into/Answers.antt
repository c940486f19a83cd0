use Rattle.std.proofs.Common.{Some, sym, ◌∙◌}
use Rattle.executor_core.proofs.Seating.{key_found, set_found, seated_with, futures_with}
use Rattle.executor_core.proofs.Seating.{is_among, none_present, present_back, others_present}
use Rattle.executor_core.proofs.table.entries.put_into.Goals as goal

pub returns-in-None-clause-back : goal.returns-in-None-clause-back
returns-in-None-clause-back c = none_present c.args.f _ c.in-None.ensures.absent ∙ sym c.in-None.ensures.absent

pub returns-in-Some-clause-seated : goal.returns-in-Some-clause-seated
returns-in-Some-clause-seated c =
    rw (c.put_back.ensures.back, set_found _ _ _ _ c.in-Some.ensures.found) (seated_with _ _ _ _ c.requires)

pub returns-in-Some-clause-futures : goal.returns-in-Some-clause-futures
returns-in-Some-clause-futures c = rw (c.put_back.ensures.back, set_found _ _ _ _ c.in-Some.ensures.found)
    (futures_with _ _ _)

pub returns-in-Some-clause-back : goal.returns-in-Some-clause-back
returns-in-Some-clause-back c =
    let found = key_found c.in-Some.place c.args.f _ c.in-Some.ensures.found in
    rw (c.put_back.ensures.back, set_found _ _ _ _ c.in-Some.ensures.found)
    (present_back _ c.args.f c.in-Some.place _ _ c.requires c.in-Some.ensures.here found
    ∙ sym (is_among c.args.f _ _ found))

pub returns-in-Some-clause-others : goal.returns-in-Some-clause-others
returns-in-Some-clause-others c = λ g other.
    let found = key_found c.in-Some.place c.args.f _ c.in-Some.ensures.found in
    rw (c.put_back.ensures.back, set_found _ _ _ _ c.in-Some.ensures.found)
    (others_present c.args.f g _ (Some (record {})) c.args.table.now.entries found other)
