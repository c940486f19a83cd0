use Rattle.executor_model.specs.Steps.{is_static_kind}
use Rattle.plain_scheduler.specs.Calls.{new}
use Rattle.solo_laws.proofs.Happening.Lists.{lists_happen}
use Rattle.solo_laws.proofs.Showing.Courses.{new_known}
use Rattle.solo_laws.specs.Making.{by_number}
use Rattle.solo_laws.specs.Owner.{new_owner}
use Rattle.two_roads.proofs.InStep.{steps_together}
use Rattle.two_roads.proofs.Wished.{of_wishes}
use Rattle.two_roads.proofs.together.wished_calls_show_alike.Goals as goal

pub returns : goal.returns
returns g c future number limit kind parties acts first before they l =
    let go = lists_happen future limit l.both_new.solo_kind (is_static_kind kind) first before l.wishes l.both_new.is_new l.both_new.counted l.enough l.may in (
      go,
      λ refused.
          (steps_together by_number number limit kind l.both_new.solo_kind parties acts go.calls first go.after go.shown before go.now they l.both_new.is_new
          l.both_new.counted
          go.leads
          (of_wishes by_number number limit kind parties acts l.wishes go.calls (new_owner before) go.now first go.after
          (new limit (is_static_kind kind)) go.shown go.leads they l.same go.wished refused
          (new_known by_number before limit l.both_new.solo_kind (is_static_kind kind) first l.both_new.is_new l.both_new.counted))).1,
    )
