-- And so to the end: from the executor's drop on.
use Rattle.std.proofs.Common.{◌≡◌, ℕ, ◌++◌, ◌∷◌, not, List, map, sym, ap, subst, ◌∙◌}
use Rattle.executor_model.specs.declared.call.Call.TheVariants as call
use Rattle.executor_model.specs.declared.kind.Kind.{Kind as MachineKind}
use Rattle.executor_model.specs.declared.op.Waker.{Waker}
use Rattle.executor_model.specs.declared.step.Step.TheVariants.{Begin}
use Rattle.executor_model.specs.Quiet.{IsQuiet}
use Rattle.executor_model.specs.Steps.{is_static_kind, start}
use Rattle.executor_model.proofs.Steps.Reached.{Reached, reached-more}
use Rattle.solo.specs.declared.names.Kind.{Kind}
use Rattle.solo.specs.declared.names.SoloWaker.{SoloWaker}
use Rattle.solo.specs.declared.owed.Lent.{Lent}
use Rattle.solo.specs.declared.solo.Solo.{Solo}
use Rattle.solo.specs.Solo.{IsNew, counts}
use Rattle.plain_scheduler.specs.State.{Choice, Event, Plain, Who}
use Rattle.plain_scheduler.specs.Calls.{Call, DropExecutor, course, does, new}
use Rattle.machine_roads.specs.DropActs.{AreDropActs, DropActAlike, DropActsAlike, StandsDropping, left_by, plain_behind}
use Rattle.machine_roads.specs.Road.{Follows}
use Rattle.machine_roads.specs.Seeing.{heard_in, shown as shown_alike}
use Rattle.machine_roads.specs.View.{Output, wakes as wakes_in}
use Rattle.machine_roads.specs.Within.{Act, ActAlike, AreActs, IsAct, standing}
use Rattle.machine_roads.proofs.ActsToEnd.{acts_to_the_end, at_rest_behind, nowhere_behind}
use Rattle.solo_laws.specs.Closing.{IsClosed}
use Rattle.solo_laws.specs.Courses.{Leads}
use Rattle.solo_laws.specs.LastCalls.{LastCalls}
use Rattle.solo_laws.specs.Owner.{Owner, new_owner}
use Rattle.solo_laws.specs.Road.{wakes}
use Rattle.solo_laws.proofs.Showing.AllThere.{none_lost}
use Rattle.solo_laws.proofs.Showing.Courses.{leads_alike, new_known}
use Rattle.solo_laws.proofs.Showing.LastCalls.{last_calls_alike}
use Rattle.two_roads.specs.Acting.{AreOfSteps, EndOfSteps, left_of}
use Rattle.two_roads.specs.Renaming.{event_as, renamed}
use Rattle.two_roads.specs.Together.{TellsOf, as_heard, as_machines, nothing, numbered}
use Rattle.two_roads.proofs.ActedToEnd.{ends_acted, ends_rest, last_aside}
use Rattle.two_roads.proofs.Both.{course_of_both, map_twice}
use Rattle.two_roads.proofs.InDrop.{acts_come}
use Rattle.two_roads.proofs.InStep.{steps_same}

module _ {F T X : Type 0} (its : ℕ → Lent) (number : X → ℕ) (limit : ℕ) (kind : MachineKind) (solo_kind : Kind) (parties : ℕ)
    (acts : List Act) (a : Act) (later : List Act) (cs ends : List (Choice × Call T (SoloWaker X))) (first middle last : Solo F T X)
    (shown others : List (Event T (SoloWaker X))) (before : Who → ℕ) (after : Owner) (they : AreActs (start limit kind parties) acts)
    (quiet : IsQuiet (left_by (start limit kind parties) acts).world.trace)
    (acts_so : IsAct (left_by (start limit kind parties) acts) a)
    (begins : a.first ≡ Begin a.party call.DropExecutor) (they_too : AreDropActs a.left later) (is_new : IsNew limit solo_kind first)
    (counted : counts solo_kind ≡ not (is_static_kind kind))
    (led : Leads its cs (new_owner before) first (new limit (is_static_kind kind)) shown after middle)
    (then_so : LastCalls its middle (course wakes cs (new limit (is_static_kind kind))) ends others last)
    (are : AreOfSteps number (start limit kind parties) acts led)
    (end_are : EndOfSteps number a later (course wakes cs (new limit (is_static_kind kind))) ends) where
  -- where the drop begins
  abbrev q : Plain Output Waker
  q = new limit (is_static_kind kind)

  go : (alike : ActAlike (start limit kind parties) q acts)
      × DropActsAlike (left_by (start limit kind parties) acts) (plain_behind acts (start limit kind parties) q alike)
  go = acts_to_the_end limit kind parties acts they quiet

  abbrev r : Plain Output Waker
  r = plain_behind acts (start limit kind parties) q go.0

  abbrev p : Plain T (SoloWaker X)
  p = course wakes cs (new limit (is_static_kind kind))

  comes : renamed nothing (numbered number) p ≡ r
  comes =
      steps_same its number limit kind solo_kind parties acts cs first middle shown before after they go.0 is_new counted led are
      ∙ acts_come acts (start limit kind parties) q go.0

  goes : (d : Choice) → StandsDropping (standing a.left a.party) (does wakes_in d DropExecutor r)
      × DropActAlike a.left (does wakes_in d DropExecutor r) later
  goes d = go.1 a later d (nowhere_behind limit kind parties acts they quiet go.0) acts_so begins they_too

  pub steps_end_together : IsClosed its last (course wakes (cs ++ ends) (new limit (is_static_kind kind)))
      × (heard_in (left_of a.left later).world.trace ≡ as_heard number (shown ++ others))
  steps_end_together =
      let z : Plain T (SoloWaker X) = course wakes (cs ++ ends) (new limit (is_static_kind kind)) in
      let both =
      leads_alike its cs (new_owner before) after first middle (new limit (is_static_kind kind)) shown
      (new_known its before limit solo_kind (is_static_kind kind) first is_new counted) led in
      let it =
      last_calls_alike its ends middle last p others both.0.stands
      (none_lost its limit (is_static_kind kind) cs (new_owner before) after first middle shown led) then_so in
      let together = course_of_both wakes cs ends (new limit (is_static_kind kind)) in
      let seen = ends_acted number a later r p ends comes end_are (last_aside its middle p ends others last then_so) goes in
      let events : z.events ≡ shown ++ others =
      ap (λ (z : Plain T (SoloWaker X)). z.events) together ∙ (it.1 ∙ ap (λ es. es ++ others) both.1) in (
        subst (λ z. IsClosed its last z) (sym together) it.0,
        seen
            ∙ (ap (λ (z : Plain T (SoloWaker X)). map shown_alike (renamed nothing (numbered number) z).events) (sym together)
            ∙ (map_twice (event_as nothing (numbered number)) shown_alike z.events ∙ ap (λ es. as_heard number es) events)),
      )

  -- and once no call is in progress any more
  pub rest_at_the_end : IsQuiet (left_of a.left later).world.trace
      → IsClosed its last (course wakes (cs ++ ends) (new limit (is_static_kind kind)))
      × TellsOf number (left_of a.left later) (course wakes (cs ++ ends) (new limit (is_static_kind kind))) (shown ++ others)
  rest_at_the_end at_rest =
      let before = at_rest_behind limit kind parties acts they quiet go.0 in
      let reached : Reached a.left =
      reached-more (a.first ∷ a.steps) (left_by (start limit kind parties) acts) a.left before.reached acts_so.made in
      let both = steps_end_together in (
        both.0,
        record {
          follows =
              subst (λ z. Follows (left_of a.left later).world (as_machines number z))
              (sym (course_of_both wakes cs ends (new limit (is_static_kind kind))))
              (ends_rest number a later r p ends comes end_are (last_aside its middle p ends others last then_so) goes reached they_too
              at_rest);
          seen = both.1;
        },
      )
