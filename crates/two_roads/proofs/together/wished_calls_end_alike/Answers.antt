use Rattle.executor_model.specs.Steps.{is_static_kind}
use Rattle.plain_scheduler.specs.Calls.{course, new}
use Rattle.solo_laws.proofs.Happening.LastCalls.{last_calls_happen}
use Rattle.solo_laws.proofs.Happening.Lists.{lists_happen}
use Rattle.solo_laws.proofs.Showing.AllThere.{none_lost}
use Rattle.solo_laws.proofs.Showing.Courses.{leads_alike, new_known}
use Rattle.solo_laws.specs.Making.{by_number}
use Rattle.solo_laws.specs.Owner.{new_owner}
use Rattle.solo_laws.specs.Road.{wakes}
use Rattle.two_roads.proofs.InStepToEnd.{steps_end_together}
use Rattle.two_roads.proofs.Wished.{end_of_wishes, of_wishes}
use Rattle.two_roads.proofs.together.wished_calls_end_alike.Goals as goal

pub returns : goal.returns
returns g c future number limit kind parties acts a later ends x first before they quiet acts_so begins they_too l last_wishes drop =
    let q = new limit (is_static_kind kind) in
    let go = lists_happen future limit l.both_new.solo_kind (is_static_kind kind) first before l.wishes l.both_new.is_new l.both_new.counted l.enough l.may in
    let p = course wakes go.calls q in
    let known =
    (leads_alike by_number go.calls (new_owner before) go.now first go.after q go.shown
    (new_known by_number before limit l.both_new.solo_kind (is_static_kind kind) first l.both_new.is_new l.both_new.counted) go.leads).0 in
    let last =
    last_calls_happen by_number go.after p known.stands
    (none_lost by_number limit (is_static_kind kind) go.calls (new_owner before) go.now first go.after go.shown go.leads) x ends (drop go)
    in (
      go,
      last,
      λ refused last_refused.
          (steps_end_together by_number number limit kind l.both_new.solo_kind parties acts a later go.calls last.calls first go.after last.after
          go.shown last.shown before go.now they quiet acts_so begins they_too l.both_new.is_new l.both_new.counted go.leads last.last
          (of_wishes by_number number limit kind parties acts l.wishes go.calls (new_owner before) go.now first go.after q go.shown
          go.leads they l.same go.wished refused
          (new_known by_number before limit l.both_new.solo_kind (is_static_kind kind) first l.both_new.is_new l.both_new.counted))
          (end_of_wishes number a later p x ends last.calls (drop go).call last_wishes last.wished last_refused)).1,
    )
