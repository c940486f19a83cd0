use Rattle.std.proofs.Common.{◌++◌, ap, ◌∙◌}
use Rattle.plain_scheduler.specs.Calls.{course, new}
use Rattle.solo_laws.specs.Owner.{new_owner}
use Rattle.solo_laws.specs.Road.{wakes}
use Rattle.solo_laws.proofs.Showing.AllThere.{none_lost}
use Rattle.solo_laws.proofs.Showing.Courses.{leads_alike, new_known}
use Rattle.solo_laws.proofs.Showing.LastCalls.{last_calls_alike}
use Rattle.solo_laws.proofs.answers.lists_end_alike.Goals as goal

pub returns : goal.returns
returns g c its limit kind is_static calls ends first middle last shown others before later is counted how then_so =
    let both =
    leads_alike its calls (new_owner before) later first middle (new limit is_static) shown
    (new_known its before limit kind is_static first is counted)
    how in
    let it = last_calls_alike its ends middle last (course wakes calls (new limit is_static)) others both.0.stands
    (none_lost its limit is_static calls (new_owner before) later first middle shown how) then_so in
    (it.0, it.1 ∙ ap (λ es. es ++ others) both.1)
