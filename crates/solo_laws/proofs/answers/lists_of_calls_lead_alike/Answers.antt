use Rattle.plain_scheduler.specs.Calls.{new}
use Rattle.solo_laws.specs.Owner.{new_owner}
use Rattle.solo_laws.proofs.Showing.Courses.{leads_alike, new_known}
use Rattle.solo_laws.proofs.answers.lists_of_calls_lead_alike.Goals as goal

pub returns : goal.returns
returns g c its limit kind is_static calls first last shown before later is counted how =
    let it =
    leads_alike its calls (new_owner before) later first last (new limit is_static) shown
    (new_known its before limit kind is_static first is counted)
    how in
    (it.0.stands, it.1)
