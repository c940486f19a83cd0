-- From new ones on what is refused, and whom runs rob, says it all: both look first at the same mark, count alike and take alike.
use Rattle.std.proofs.Common.{◌≡◌, ℕ, ◌+◌, ◌%◌, ◌==◌, ◌≤◌, ◌<◌, not, List, [], ◌∷◌, ◌++◌, length, map, take, refl, sym, ap, ◌∙◌, subst}
use Rattle.std.proofs.Common.{arith}
use Rattle.std.proofs.Common.{get_or-set_other}
use Rattle.std.specs.Prelude.{reverse}
use Rattle.executor_model.specs.declared.kind.Kind.{Kind as MachineKind}
use Rattle.executor_model.specs.declared.op.Waker.{Waker}
use Rattle.executor_model.specs.declared.step.Step.{Step}
use Rattle.executor_model.specs.Steps.{Machine, after as after_step, is_static_kind, party_of, stack, start}
use Rattle.executor_model.specs.World.{done}
use Rattle.executor_model.proofs.Quiet.Resting.{rests}
use Rattle.executor_model.proofs.Steps.Reached.{Reached, deep-here, reached-more, run-first}
use Rattle.solo.specs.declared.names.Kind.{Kind}
use Rattle.solo.specs.declared.names.SoloWaker.{SoloWaker}
use Rattle.solo.specs.declared.owed.Lent.{Lent}
use Rattle.solo.specs.declared.solo.Solo.{Solo}
use Rattle.solo.specs.Lines.{LinesValue}
use Rattle.solo.specs.OwnQueues.{OwnQueuesValue}
use Rattle.solo.specs.declared.own_queues.Own.{Own}
use Rattle.solo.specs.Solo.{IsNew, counts}
use Rattle.plain_scheduler.specs.State.{Choice, Event, Plain, Who}
use Rattle.plain_scheduler.specs.Usual.{order_by}
use Rattle.plain_scheduler.specs.Calls.{Call, course, does, new}
use Rattle.machine_roads.specs.Seeing.{heard_in, shown as shown_alike}
use Rattle.machine_roads.specs.View.{Output, wakes as wakes_in}
use Rattle.machine_roads.specs.Within.{Act, ActAlike, AreActs, StandsAlike, alike, nowhere, standing, start_in}
use Rattle.machine_roads.proofs.Acts.{acts_alike, goes_rest, taken_over}
use Rattle.machine_roads.proofs.Calling.{begin_alike}
use Rattle.solo_laws.proofs.Showing.Counts.{Below, acts_below, new_below}
use Rattle.solo_laws.proofs.Showing.Courses.{Known, leads_alike, new_known}
use Rattle.solo_laws.specs.Counting.{counts_of}
use Rattle.solo_laws.specs.Courses.{Leads, leads, stays}
use Rattle.solo_laws.specs.Ordering.{order_of}
use Rattle.solo_laws.proofs.Choices.AsUsual.{robs_there}
use Rattle.solo_laws.proofs.Choices.Searched.{walked_there}
use Rattle.solo_laws.proofs.Showing.StillOrdered.{call_order}
use Rattle.machine_roads.proofs.ActsOrder.{act_orders}
use Rattle.solo_laws.specs.Owner.{Owner, new_owner}
use Rattle.solo_laws.specs.Road.{wakes}
use Rattle.solo_laws.specs.Tabled.{Stands}
use Rattle.two_roads.specs.Acting.{AreOfSteps, acts_by, left_of}
use Rattle.two_roads.specs.Renaming.{call_as, event_as, lying_as, renamed}
use Rattle.two_roads.specs.Together.{as_heard, nothing, numbered}
use Rattle.two_roads.proofs.Acted.{one_same, tells_at}
use Rattle.two_roads.proofs.ActSays.{act_says}
use Rattle.two_roads.proofs.Both.{map_twice}
use Rattle.two_roads.proofs.CallSays.{call_says}
use Rattle.two_roads.proofs.Inner.{acts_seen, seen_in}
use Rattle.two_roads.proofs.Meant.{one_made}
use Rattle.two_roads.proofs.Refusing.{lie_in}
use Rattle.two_roads.proofs.Says.{ActSays, has_counted}
use Rattle.two_roads.proofs.StepAlike.{IsInStep, RobsFrom, counts_next, order_next, takes_alike, turns_next}
use Rattle.two_roads.proofs.Words.{length_map}

-- only who does a step has anything else to do
pub rest_still : (p : ℕ) (s : Machine) (t : Step) → party_of t ≡ p → ((q : ℕ) → ¬ (q ≡ p) → stack s q ≡ []) → (q : ℕ) → ¬ (q ≡ p)
    → stack (after_step s t) q ≡ []
rest_still p s t its rest q apart = get_or-set_other s.parties (party_of t) q _ [] (λ same. apart (same ∙ its)) ∙ rest q apart

abbrev pub OthersRest : ℕ → Machine → Type 0
OthersRest p s = (q : ℕ) → ¬ (q ≡ p) → stack s q ≡ []

fewer : (n m t : ℕ) → n ≡ m → m < t → n ≤ t
fewer n m t same below = omega (arith, same, below)

module _ {F T X : Type 0} (its : ℕ → Lent) (number : X → ℕ) where
  in_step : (acts : List Act) (s : Machine) → Reached s → (before : ℕ) → OthersRest before s → (q : Plain Output Waker)
      → StandsAlike (standing s before) q → AreActs s acts → (go : ActAlike s q acts) → (p : Plain T (SoloWaker X))
      → renamed nothing (numbered number) p ≡ q → (cs : List (Choice × Call T (SoloWaker X))) (owner last : Owner) (y z : Solo F T X)
      (shown : List (Event T (SoloWaker X))) → (led : Leads its cs owner y p shown last z) → Known its owner y p
      → IsInStep s.world.urgent_turns y.lines.turn → ((k : ℕ) → has_counted s.world k ≡ counts_of owner k) → Below owner
      → s.world.listed ≡ order_of y → AreOfSteps number s acts led
      → renamed nothing (numbered number) (course wakes cs p) ≡ course wakes_in (acts_by s q acts go) q
  in_step [] s reached before others q stands are go p is [] owner last y z shown (stays owner' y' p') known step same below ordered of = is
  in_step [] s reached before others q stands are go p is (x ∷ xs) owner last y z shown
      (leads c call rest b now e t y2 v r first more tells acts_so on) known step same below ordered of = absurd of
  in_step (a ∷ acts) s reached before others q stands are go p is [] owner last y z shown (stays owner' y' p') known step same below
      ordered of = absurd of
  in_step (a ∷ acts) s reached before others q stands are go p is (x ∷ xs) owner last y z shown
      (leads c call rest b now e t y2 v r first more tells acts_so on) known step same below ordered of =
      let it = are.0 in
      let d : Choice = go.1.choice in
      let made : Call Output Waker = call_as nothing (numbered number) call in
      let k = run-first a.first a.steps s a.left it.made in
      let here : StandsAlike (standing s a.party) q =
      subst (λ e. StandsAlike e q) (taken_over s before a.party others it.others (before == a.party) refl) stands in
      let lie = lie_in (standing s a.party) q here in
      let seen = seen_in (standing a.left a.party) go.0 go.2 in
      let lie_then = lie_in (standing a.left a.party) go.0 go.2 in
      let call_is : go.1.made ≡ made = one_made s a.party a.first go.1.made made go.1.is of.0.made in
      let theirs : ActSays s a d made (renamed nothing (numbered number) p) =
      subst (λ m. ActSays s a d m (renamed nothing (numbered number) p)) call_is
      (subst (λ q. ActSays s a d go.1.made q) (sym is) (act_says s q a go.0 go.1 lie seen lie_then)) in
      let tells_so : length p.lying ≤ d.tells =
      fewer (length p.lying) (length q.lying) d.tells
      (sym (length_map (lying_as (numbered number)) p.lying) ∙ ap (λ (z : Plain Output Waker). length z.lying) is)
      (tells_at s.world q d a.first go.1.chosen) in
      let says = call_says its b c t p now y2 call first known below tells acts_so in
      let robs : RobsFrom number s a c d b now t y2 call p tells tells_so theirs says step same ordered =
      λ x x_is found kept.
      let words = of.1 x x_is found kept in
      let walk = walked_there its b c t p known tells (start_in s a) words.0 now y2 call first acts_so words.1 x x_is in
      robs_there its b c t x now y2 known.listed.within (start_in s a) words.0 walk.0 walk.1 found in
      let takes = takes_alike number s a c d b now t y2 call p tells tells_so theirs says step same ordered robs in
      let one = one_same number s a q go.0 go.1 lie seen lie_then p c call is of.0.made of.0.refused takes tells in
      let next : Known its now y2 (does wakes c call p) =
      (leads_alike its ((c, call) ∷ []) b now t y2 p (first ++ []) known
      (leads c call [] b now now t y2 y2 p first [] tells acts_so (stays now y2 (does wakes c call p)))).0 in
      in_step acts a.left (reached-more (a.first ∷ a.steps) s a.left reached it.made) a.party
      (goes_rest a.steps (after_step s a.first) a.left a.party it.rests k.1 (rest_still a.party s a.first it.its it.others)) go.0 go.2
      are.2 go.3 (does wakes c call p) one xs now last y2 z more on next
      (turns_next number s a c d b now t y2 call p tells tells_so theirs says step same ordered of.0.refused)
      (counts_next number s a c d b now t y2 call p tells tells_so theirs says step same ordered)
      (acts_below its b c below t p now y2 call first acts_so)
      (order_next number s a c d b now t y2 call p tells tells_so theirs says step same ordered
      (subst (λ z. a.left.world.listed ≡ order_by made z s.world.listed) (sym is)
      (act_orders s reached q a made here it are.1 of.0.made))
      (call_order its b c t p known now y2 call first acts_so)) of.2
      ∙ ap (course wakes_in (acts_by a.left go.0 acts go.3)) (sym go.1.so)

  -- from new ones on
  pub steps_same : (limit : ℕ) (kind : MachineKind) (solo_kind : Kind) (parties : ℕ) (acts : List Act)
      (cs : List (Choice × Call T (SoloWaker X))) (first last : Solo F T X) (shown : List (Event T (SoloWaker X)))
      (before : Who → ℕ) (after : Owner) → AreActs (start limit kind parties) acts
      → (go : ActAlike (start limit kind parties) (new limit (is_static_kind kind)) acts) → IsNew limit solo_kind first
      → counts solo_kind ≡ not (is_static_kind kind)
      → (led : Leads its cs (new_owner before) first (new limit (is_static_kind kind)) shown after last)
      → AreOfSteps number (start limit kind parties) acts led
      → renamed nothing (numbered number) (course wakes cs (new limit (is_static_kind kind)))
      ≡ course wakes_in (acts_by (start limit kind parties) (new limit (is_static_kind kind)) acts go) (new limit (is_static_kind kind))
  steps_same limit kind solo_kind parties acts cs first last shown before after they go is_new counted led of =
      let s = start limit kind parties in
      let reached : Reached s = record { limit = limit; kind = kind; parties = parties; steps = []; is = refl } in
      let empty : (n : ℕ) → stack s n ≡ [] = rests s (deep-here s reached) (λ party. refl) in
      let q : Plain Output Waker = new limit (is_static_kind kind) in
      let stands : StandsAlike (standing s 0) q =
      subst (λ xs. StandsAlike (done s.world (reverse xs)) q) (sym (empty 0)) (alike nowhere (begin_alike limit kind parties)) in
      in_step acts s reached 0 (λ n apart. empty n) q stands they go (new limit (is_static_kind kind)) refl cs (new_owner before) after
      first last shown led (new_known its before limit solo_kind (is_static_kind kind) first is_new counted)
      (ap (λ (l : LinesValue). 7 + l.turn % 8) is_new.lines) (λ k. refl) (new_below before)
      (sym (ap (λ (o : OwnQueuesValue). take o.listed (map (λ (q : Own). q.number) o.queues)) is_new.runs)) of

  pub steps_together : (limit : ℕ) (kind : MachineKind) (solo_kind : Kind) (parties : ℕ) (acts : List Act)
      (cs : List (Choice × Call T (SoloWaker X))) (first last : Solo F T X) (shown : List (Event T (SoloWaker X)))
      (before : Who → ℕ) (after : Owner) → AreActs (start limit kind parties) acts → IsNew limit solo_kind first
      → counts solo_kind ≡ not (is_static_kind kind)
      → (led : Leads its cs (new_owner before) first (new limit (is_static_kind kind)) shown after last)
      → AreOfSteps number (start limit kind parties) acts led
      → Stands its last (course wakes cs (new limit (is_static_kind kind)))
      × (heard_in (left_of (start limit kind parties) acts).world.trace ≡ as_heard number shown)
  steps_together limit kind solo_kind parties acts cs first last shown before after they is_new counted led of =
      let s = start limit kind parties in
      let q : Plain Output Waker = new limit (is_static_kind kind) in
      let z : Plain T (SoloWaker X) = course wakes cs (new limit (is_static_kind kind)) in
      let go = acts_alike limit kind parties acts they in
      let both =
      leads_alike its cs (new_owner before) after first last (new limit (is_static_kind kind)) shown
      (new_known its before limit solo_kind (is_static_kind kind) first is_new counted) led in
      let named =
      steps_same limit kind solo_kind parties acts cs first last shown before after they go is_new counted led of in (
        both.0.stands,
        acts_seen s q acts go refl
            ∙ (ap (λ (r : Plain Output Waker). map shown_alike r.events) (sym named)
            ∙ (map_twice (event_as nothing (numbered number)) shown_alike z.events ∙ ap (λ es. as_heard number es) both.1)),
      )
