-- Wherever a party rests among calls one inside another, the trace tells of what the plain scheduler has seen; and that is what the
-- executor of one owner shows by the same calls.
use Rattle.std.proofs.Common.{◌≡◌, ℕ, not, true, List, [], ◌∷◌, map, None, refl, sym, ap, subst, Option, Some, slice_get, slice_set, ◌∙◌}
use Rattle.executor_model.specs.declared.kind.Kind.{Kind as MachineKind}
use Rattle.executor_model.specs.declared.op.Op.{Op}
use Rattle.executor_model.specs.declared.op.Waker.{Waker}
use Rattle.executor_model.specs.Steps.{Machine, is_static_kind, start}
use Rattle.executor_model.specs.World.{Done}
use Rattle.solo.specs.declared.names.Kind.{Kind}
use Rattle.solo.specs.declared.names.SoloWaker.{SoloWaker}
use Rattle.solo.specs.declared.owed.Lent.{Lent}
use Rattle.solo.specs.declared.solo.Solo.{Solo}
use Rattle.solo.specs.Solo.{IsNew, counts}
use Rattle.plain_scheduler.specs.State.{Choice, Event, Plain, Running, Taker, Who}
use Rattle.plain_scheduler.specs.Lists.{on}
use Rattle.plain_scheduler.specs.Moves.{runs, task}
use Rattle.plain_scheduler.specs.Calls.{Call, course, new}
use Rattle.machine_roads.specs.Dropped.{Drops, answered, loses, without_run}
use Rattle.machine_roads.specs.Forgotten.{without_awaiter}
use Rattle.machine_roads.specs.Seeing.{heard_in, shown as shown_alike}
use Rattle.machine_roads.specs.View.{Output, wakes as wakes_in}
use Rattle.machine_roads.specs.Within.{Act, ActAlike, StandsAlike, alike, dropping, forgetting, forgotten, going}
use Rattle.machine_roads.specs.Within.{losing, standing, untaken}
use Rattle.machine_roads.proofs.InLoss.{trace_through}
use Rattle.machine_roads.proofs.Puts.{put_by}
use Rattle.solo_laws.specs.Courses.{Leads}
use Rattle.solo_laws.specs.Owner.{Owner, new_owner}
use Rattle.solo_laws.specs.Road.{wakes}
use Rattle.solo_laws.specs.Tabled.{Stands}
use Rattle.solo_laws.proofs.Showing.Courses.{leads_alike, new_known}
use Rattle.two_roads.specs.Acting.{acts_by, left_of}
use Rattle.two_roads.specs.Renaming.{AreSame, event_as}
use Rattle.two_roads.specs.Together.{as_heard, nothing, numbered}
use Rattle.two_roads.proofs.Both.{map_twice, wakes_so}
use Rattle.two_roads.proofs.Calling.{courses_same}

abbrev pub Sees : Done → Plain Output Waker → Type 0
Sees e q = heard_in e.world.trace ≡ map shown_alike q.events

drops_seen : (taker : Taker Waker) (final : Op) (below : List Op) (f : ℕ) (b : Plain Output Waker) (e : Done) (q : Plain Output Waker)
    → Drops taker final below f b e q → Sees e q
drops_seen taker final below f b e q (answered next inside follows) = follows.seen
drops_seen taker final below f b e q (loses awaiter next inside ending) = ending.follows.seen

runs_seen : (h : Running → Running) (r : ℕ) (q : Plain Output Waker) → (runs h r q).events ≡ q.events
runs_seen h r q = by (slice_get q.runs r)
  where
    by : (o : Option Running) → (on o (λ run p. record p { runs = slice_set p.runs r (h run) }) q).events ≡ q.events
    by None = refl
    by (Some run) = refl

-- wherever it rests
pub seen_in : (e : Done) (q : Plain Output Waker) → StandsAlike e q → Sees e q
seen_in e q (alike nested follows) = follows.seen
seen_in e q (losing f fs below codes nested stops) =
    ap (λ t. heard_in t) (sym (trace_through (f ∷ fs) e.world)) ∙ stops.losing.follows.seen
seen_in e q (going r fs below codes nested stops) =
    ap (λ t. heard_in t) (sym (trace_through fs e.world))
    ∙ stops.losing.follows.seen
    ∙ ap (λ es. map shown_alike es) (runs_seen (λ run. record run { is_over = true }) r q)
seen_in e q (dropping taker final below f b it nested drops) = drops_seen taker final below f b e q drops
seen_in e q (untaken taker final below f awaiter g gs codes it nested stops) =
    ap (λ t. heard_in t) (sym (trace_through (g ∷ gs) (without_run f e.world))) ∙ stops.stands.follows.follows.seen
seen_in e q (forgetting taker final below f b it nested stops) =
    stops.forgotten.follows.seen
    ∙ put_by (λ p. map shown_alike p.events) f (record (task f q) { awaiter = None }) q (λ fs. refl)
seen_in e q (forgotten taker final below f g gs codes it nested stops) =
    ap (λ t. heard_in t) (sym (trace_through (g ∷ gs) (without_awaiter f e.world)))
    ∙ (stops.stands.follows.follows.seen
    ∙ put_by (λ p. map shown_alike p.events) f (record (task f q) { awaiter = None }) q (λ fs. refl))

pub acts_seen : (s : Machine) (q : Plain Output Waker) (acts : List Act) (go : ActAlike s q acts)
    → heard_in s.world.trace ≡ map shown_alike q.events
    → heard_in (left_of s acts).world.trace ≡ map shown_alike (course wakes_in (acts_by s q acts go) q).events
acts_seen s q [] go seen = seen
acts_seen s q (a ∷ acts) go seen =
    subst
    (λ (z : Plain Output Waker). heard_in (left_of a.left acts).world.trace
    ≡ map shown_alike (course wakes_in (acts_by a.left go.0 acts go.3) z).events)
    (sym go.1.so)
    (acts_seen a.left go.0 acts go.3 (seen_in (standing a.left a.party) go.0 go.2))

module _ {F T X : Type 0} (its : ℕ → Lent) (number : X → ℕ) where
  pub nested_together : (limit : ℕ) (kind : MachineKind) (solo_kind : Kind) (parties : ℕ) (acts : List Act)
      (go : ActAlike (start limit kind parties) (new limit (is_static_kind kind)) acts)
      (calls : List (Choice × Call T (SoloWaker X))) (first last : Solo F T X) (shown : List (Event T (SoloWaker X)))
      (before : Who → ℕ) (after : Owner) → IsNew limit solo_kind first → counts solo_kind ≡ not (is_static_kind kind)
      → Leads its calls (new_owner before) first (new limit (is_static_kind kind)) shown after last
      → AreSame nothing (numbered number) wakes calls (new limit (is_static_kind kind))
      (acts_by (start limit kind parties) (new limit (is_static_kind kind)) acts go)
      → Stands its last (course wakes calls (new limit (is_static_kind kind)))
      × (heard_in (left_of (start limit kind parties) acts).world.trace ≡ as_heard number shown)
  nested_together limit kind solo_kind parties acts go calls first last shown before after is_new counted led are =
      let s = start limit kind parties in
      let q : Plain Output Waker = new limit (is_static_kind kind) in
      let z : Plain T (SoloWaker X) = course wakes calls (new limit (is_static_kind kind)) in
      let both =
      leads_alike its calls (new_owner before) after first last (new limit (is_static_kind kind)) shown
      (new_known its before limit solo_kind (is_static_kind kind) first is_new counted) led in
      let named =
      courses_same nothing (numbered number) wakes wakes_in (wakes_so number) calls (new limit (is_static_kind kind))
      (acts_by s q acts go) are in (
        both.0.stands,
        acts_seen s q acts go refl
            ∙ (ap (λ (r : Plain Output Waker). map shown_alike r.events) (sym named)
            ∙ (map_twice (event_as nothing (numbered number)) shown_alike z.events ∙ ap (λ es. as_heard number es) both.1)),
      )
