-- And so it is from the executor's drop on.
use Rattle.std.proofs.Common.{◌≡◌, ℕ, ◌++◌, not, List, [], ◌∷◌, map, refl, sym, ap, subst, ◌∙◌}
use Rattle.executor_model.specs.declared.kind.Kind.{Kind as MachineKind}
use Rattle.executor_model.specs.declared.op.Waker.{Waker}
use Rattle.executor_model.specs.Steps.{Machine, is_static_kind, start}
use Rattle.executor_model.specs.World.{Done}
use Rattle.solo.specs.declared.names.Kind.{Kind}
use Rattle.solo.specs.declared.names.SoloWaker.{SoloWaker}
use Rattle.solo.specs.declared.owed.Lent.{Lent}
use Rattle.solo.specs.declared.solo.Solo.{Solo}
use Rattle.solo.specs.Solo.{IsNew, counts}
use Rattle.plain_scheduler.specs.State.{Choice, Event, Plain, Who}
use Rattle.plain_scheduler.specs.Calls as calls
use Rattle.plain_scheduler.specs.Calls.{Call, course, does, new}
use Rattle.machine_roads.specs.DropActs.{DropActAlike, StandsDropping, behind, drops, plain_behind}
use Rattle.machine_roads.specs.Seeing.{heard_in, shown as shown_alike}
use Rattle.machine_roads.specs.View.{Output, wakes as wakes_in}
use Rattle.machine_roads.specs.Within.{Act, ActAlike, standing}
use Rattle.machine_roads.proofs.InLoss.{trace_through}
use Rattle.solo_laws.specs.Closing.{IsClosed}
use Rattle.solo_laws.specs.Courses.{Leads}
use Rattle.solo_laws.specs.LastCalls.{LastCalls}
use Rattle.solo_laws.specs.Owner.{Owner, new_owner}
use Rattle.solo_laws.specs.Road.{wakes}
use Rattle.solo_laws.proofs.Showing.AllThere.{none_lost}
use Rattle.solo_laws.proofs.Showing.Courses.{leads_alike, new_known}
use Rattle.solo_laws.proofs.Showing.LastCalls.{last_calls_alike}
use Rattle.two_roads.specs.Acting.{acts_by, drop_acts_by, left_of}
use Rattle.two_roads.specs.Renaming.{AreSame, event_as}
use Rattle.two_roads.specs.Together.{as_heard, nothing, numbered}
use Rattle.two_roads.proofs.Both.{course_of_both, map_twice, wakes_so}
use Rattle.two_roads.proofs.Calling.{courses_same}
use Rattle.two_roads.proofs.Inner.{Sees}

pub drop_seen : (e : Done) (q : Plain Output Waker) → StandsDropping e q → Sees e q
drop_seen e q (drops gs f fs all next stands) =
    ap (λ t. heard_in t) (sym (trace_through gs e.world)) ∙ stands.left.follows.seen
drop_seen e q (behind gs waits stops) = ap (λ t. heard_in t) (sym (trace_through gs e.world)) ∙ stops.losing.follows.seen

pub drop_acts_seen : (s : Machine) (q : Plain Output Waker) (acts : List Act) (go : DropActAlike s q acts)
    → heard_in s.world.trace ≡ map shown_alike q.events
    → heard_in (left_of s acts).world.trace ≡ map shown_alike (course wakes_in (drop_acts_by s q acts go) q).events
drop_acts_seen s q [] go seen = seen
drop_acts_seen s q (a ∷ acts) go seen =
    subst
    (λ (z : Plain Output Waker). heard_in (left_of a.left acts).world.trace
    ≡ map shown_alike (course wakes_in (drop_acts_by a.left go.0 acts go.3) z).events)
    (sym go.1.so)
    (drop_acts_seen a.left go.0 acts go.3 (drop_seen (standing a.left a.party) go.0 go.2))

pub acts_come : (acts : List Act) (s : Machine) (q : Plain Output Waker) (go : ActAlike s q acts)
    → course wakes_in (acts_by s q acts go) q ≡ plain_behind acts s q go
acts_come [] s q go = refl
acts_come (a ∷ acts) s q go = ap (course wakes_in (acts_by a.left go.0 acts go.3)) go.1.so ∙ acts_come acts a.left go.0 go.3

module _ {F T X : Type 0} (its : ℕ → Lent) (number : X → ℕ) where
  pub nested_end_together : (limit : ℕ) (kind : MachineKind) (solo_kind : Kind) (parties : ℕ) (acts : List Act)
      (go : ActAlike (start limit kind parties) (new limit (is_static_kind kind)) acts) (a : Act) (d : Choice) (later : List Act)
      (stands : StandsDropping (standing a.left a.party)
      (does wakes_in d calls.DropExecutor (plain_behind acts (start limit kind parties) (new limit (is_static_kind kind)) go)))
      (on : DropActAlike a.left
      (does wakes_in d calls.DropExecutor (plain_behind acts (start limit kind parties) (new limit (is_static_kind kind)) go)) later)
      (cs ends : List (Choice × Call T (SoloWaker X))) (first middle last : Solo F T X) (shown others : List (Event T (SoloWaker X)))
      (before : Who → ℕ) (after : Owner) → IsNew limit solo_kind first → counts solo_kind ≡ not (is_static_kind kind)
      → Leads its cs (new_owner before) first (new limit (is_static_kind kind)) shown after middle
      → LastCalls its middle (course wakes cs (new limit (is_static_kind kind))) ends others last
      → AreSame nothing (numbered number) wakes (cs ++ ends) (new limit (is_static_kind kind))
      (acts_by (start limit kind parties) (new limit (is_static_kind kind)) acts go
      ++ (d, calls.DropExecutor) ∷ drop_acts_by a.left
      (does wakes_in d calls.DropExecutor (plain_behind acts (start limit kind parties) (new limit (is_static_kind kind)) go)) later on)
      → IsClosed its last (course wakes (cs ++ ends) (new limit (is_static_kind kind)))
      × (heard_in (left_of a.left later).world.trace ≡ as_heard number (shown ++ others))
  nested_end_together limit kind solo_kind parties acts go a d later stands on cs ends first middle last shown others before after is_new
      counted led then_so are =
      let s = start limit kind parties in
      let q : Plain Output Waker = new limit (is_static_kind kind) in
      let r : Plain Output Waker = plain_behind acts s q go in
      let r1 : Plain Output Waker = does wakes_in d calls.DropExecutor r in
      let p : Plain T (SoloWaker X) = course wakes cs (new limit (is_static_kind kind)) in
      let z : Plain T (SoloWaker X) = course wakes (cs ++ ends) (new limit (is_static_kind kind)) in
      let xs = acts_by s q acts go in
      let ys = drop_acts_by a.left r1 later on in
      let both =
      leads_alike its cs (new_owner before) after first middle (new limit (is_static_kind kind)) shown
      (new_known its before limit solo_kind (is_static_kind kind) first is_new counted) led in
      let it =
      last_calls_alike its ends middle last p others both.0.stands
      (none_lost its limit (is_static_kind kind) cs (new_owner before) after first middle shown led) then_so in
      let together = course_of_both wakes cs ends (new limit (is_static_kind kind)) in
      let named =
      courses_same nothing (numbered number) wakes wakes_in (wakes_so number) (cs ++ ends) (new limit (is_static_kind kind))
      (xs ++ (d, calls.DropExecutor) ∷ ys) are in
      let comes : course wakes_in (xs ++ (d, calls.DropExecutor) ∷ ys) q ≡ course wakes_in ys r1 =
      course_of_both wakes_in xs ((d, calls.DropExecutor) ∷ ys) q
      ∙ ap (λ (z : Plain Output Waker). course wakes_in ys (does wakes_in d calls.DropExecutor z)) (acts_come acts s q go) in
      let seen = drop_acts_seen a.left r1 later on (drop_seen (standing a.left a.party) r1 stands) in
      let events : z.events ≡ shown ++ others =
      ap (λ (z : Plain T (SoloWaker X)). z.events) together ∙ (it.1 ∙ ap (λ es. es ++ others) both.1) in (
        subst (λ z. IsClosed its last z) (sym together) it.0,
        seen
            ∙ (ap (λ (z : Plain Output Waker). map shown_alike z.events) (sym (named ∙ comes))
            ∙ (map_twice (event_as nothing (numbered number)) shown_alike z.events ∙ ap (λ es. as_heard number es) events)),
      )
