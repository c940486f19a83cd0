use Rattle.plain_scheduler.specs.Calls.{course, new}
use Rattle.solo_laws.specs.Owner.{new_owner}
use Rattle.solo_laws.specs.Road.{wakes}
use Rattle.solo_laws.proofs.Following.AtHome.{all_there}
use Rattle.solo_laws.proofs.Showing.AllThere.{none_lost}
use Rattle.solo_laws.proofs.Showing.Courses.{leads_alike, new_known}
use Rattle.solo_laws.proofs.answers.lists_lose_no_future.Goals as goal

pub returns-clause-none : goal.returns-clause-none
returns-clause-none g c its limit kind is_static calls first last shown before later is counted how =
    none_lost its limit is_static calls (new_owner before) later first last shown how

pub returns-clause-there : goal.returns-clause-there
returns-clause-there g c its limit kind is_static calls first last shown before later is counted how unpolled undropped =
    let both =
    leads_alike its calls (new_owner before) later first last (new limit is_static) shown
    (new_known its before limit kind is_static first is counted)
    how in
    let all = none_lost its limit is_static calls (new_owner before) later first last shown how in
    all_there its last (course wakes calls (new limit is_static)) both.0.stands all unpolled undropped
