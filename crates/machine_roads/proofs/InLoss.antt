-- In the drop of an output that goes with its handle calls of wakers and of other handles leave both alike but for that handle.
use Rattle.std.proofs.Common.{◌≡◌, ℕ, ◌<◌, ◌≤◌, ◌==◌, ◌++◌, ◌&&◌, not, Bool, true, false, List, [], ◌∷◌, length, Option, Some, None}
use Rattle.std.proofs.Common.{slice_index_or}
use Rattle.std.proofs.Common.{refl, sym, ap, subst, ◌∙◌}
use Rattle.task_moves.specs.declared.moves.owed.Move.TheVariants as move
use Rattle.task_moves.specs.declared.moves.state.State.{State}
use Rattle.executor_model.specs.declared.call.Call.{Call}
use Rattle.executor_model.specs.declared.call.Call.TheVariants as call
use Rattle.executor_model.specs.declared.call.Reply.TheVariants as reply
use Rattle.executor_model.specs.declared.event.Event.TheVariants as event
use Rattle.executor_model.specs.declared.op.Hold.TheVariants as hold
use Rattle.executor_model.specs.declared.op.Op.{Op}
use Rattle.executor_model.specs.declared.op.Op.TheVariants as op
use Rattle.executor_model.specs.declared.op.UserOp.TheVariants as user_op
use Rattle.executor_model.specs.declared.op.Waker.{Waker}
use Rattle.executor_model.specs.declared.op.WakerOp.TheVariants as waker_op
use Rattle.executor_model.specs.declared.step.Hint.{Hint}
use Rattle.executor_model.specs.Steps.{is_on_executor, kept, used_up, with_future}
use Rattle.executor_model.specs.World.{World, Done, among, done, log, task}
use Rattle.plain_scheduler.specs.State.{Choice, Lose, Plain, Refusal}
use Rattle.plain_scheduler.specs.Calls as plain
use Rattle.plain_scheduler.specs.Calls.{does, Ends}
use Rattle.machine_roads.specs.View.{Output, wakes}
use Rattle.machine_roads.specs.Road.{Follows}
use Rattle.machine_roads.specs.Alone.{alone, is_resting, HasAll, HasAllOf, Has}
use Rattle.machine_roads.specs.Alike.{begins, upon}
use Rattle.machine_roads.specs.Closing.{called, loses}
use Rattle.machine_roads.specs.Course.{IsCall, cancel, copy, detach, drop_handle, poll_handle, release, use_waker, wake}
use Rattle.machine_roads.specs.InLoss.{AreLosing, AreShut, CallsInLoss, InAnyLoss, IsCallInLoss, IsShut, LosesInLoss, LossEndsInLoss}
use Rattle.machine_roads.specs.InLoss.{handle_in, spares, without_handles}
use Rattle.machine_roads.specs.Losing.{IsLosing, StopsLosing, left_of, without_handle}
use Rattle.machine_roads.proofs.Along.{AlongSo, along_so, goes_append, goes_by, resting_goes}
use Rattle.machine_roads.proofs.Handless.{Does, Shut, is_beside, less, put_shut, task_less}
use Rattle.machine_roads.proofs.HandlessActs.{act_does, has_less}
use Rattle.machine_roads.proofs.InDrop.{call_so}
use Rattle.machine_roads.proofs.Lists.{length_set, turned}
use Rattle.machine_roads.proofs.Losing.{detaches_to_lose, goes_to_lose, loses_alike}

-- who isn't among the first and the others
pub parts : (g f : ℕ) (fs : List ℕ) → not (among g (f ∷ fs)) ≡ true → ((g == f) ≡ false) × (not (among g fs) ≡ true)
parts g f fs is = by (g == f) refl is
  where
    by : (b : Bool) → (g == f) ≡ b → not (elim b [ true ↦ true | false ↦ among g fs ]) ≡ true
        → ((g == f) ≡ false) × (not (among g fs) ≡ true)
    by true same is = absurd cc
    by false apart is = (apart, is)

-- one handle
module _ (f : ℕ) where
  abbrev goes : List Op → Bool
  goes os = goes_by (less f) (is_beside f) (Shut f) os

  one_along : (p : ℕ) (hints : List Hint) (w : World) (os : List Op) → IsShut w f → goes os ≡ true
      → HasAllOf Has p hints (done w os) → AlongSo (less f) (is_beside f) (Shut f) p hints (done (less f w) os) (done w os)
  one_along p hints w os shut go has =
      along_so (less f) (is_beside f) (Shut f) (act_does f) (has_less f) p hints w os shut go has

  future_does : (v : World) (o : Option ℕ) (here there : ℕ → Done) → IsShut v f → ((g : ℕ) → Does f (there g) (here g))
      → Does f (with_future (less f v) o there) (with_future v o here)
  future_does v None here there shut does = record { same = refl; kept = shut; fit = refl }
  future_does v (Some g) here there shut does = does g

  apart_if : (g : ℕ) → not (among g (f ∷ [])) ≡ true → not (f == g) ≡ true
  apart_if g is = ap not (turned g f (parts g f [] is).0)

  -- a call begins
  begins_does : (p : ℕ) (c : Call) (w : World) → is_on_executor c ≡ false → spares (f ∷ []) (handle_in c) ≡ true → IsShut w f
      → Does f (begins p None c (less f w)) (begins p None c w)
  begins_does p (call.Wake k) w off spared shut =
      let v = log w (event.CallBegun p (call.Wake k)) in
      let os : ℕ → List Op = λ g. op.Move move.Wake g ∷ op.End reply.Done hold.Nothing ∷ [] in
      future_does v (kept w k) (λ g. done (used_up v k) (os g)) (λ g. done (used_up (less f v) k) (os g))
      (record { known = shut.known; closed = shut.closed })
      (λ g. record { same = refl; kept = record { known = shut.known; closed = shut.closed }; fit = refl })
  begins_does p (call.WakeByRef k) w off spared shut =
      let v = log w (event.CallBegun p (call.WakeByRef k)) in
      let os : ℕ → List Op = λ g. op.Move move.WakeByReference g ∷ op.End reply.Done (hold.Waker k) ∷ [] in
      future_does v (kept w k) (λ g. done v (os g)) (λ g. done (less f v) (os g)) (record { known = shut.known; closed = shut.closed })
      (λ g. record { same = refl; kept = record { known = shut.known; closed = shut.closed }; fit = refl })
  begins_does p (call.Copy k) w off spared shut =
      let v = log w (event.CallBegun p (call.Copy k)) in
      let os : ℕ → List Op = λ g. op.Waker (waker_op.CopyWaker g (hold.Waker k)) ∷ [] in
      future_does v (kept w k) (λ g. done v (os g)) (λ g. done (less f v) (os g)) (record { known = shut.known; closed = shut.closed })
      (λ g. record { same = refl; kept = record { known = shut.known; closed = shut.closed }; fit = refl })
  begins_does p (call.DropWaker k) w off spared shut =
      let v = log w (event.CallBegun p (call.DropWaker k)) in
      let os : ℕ → List Op = λ g. op.Move move.Release g ∷ op.End reply.Done hold.Nothing ∷ [] in
      future_does v (kept w k) (λ g. done (used_up v k) (os g)) (λ g. done (used_up (less f v) k) (os g))
      (record { known = shut.known; closed = shut.closed })
      (λ g. record { same = refl; kept = record { known = shut.known; closed = shut.closed }; fit = refl })
  begins_does p call.Keep w off spared shut =
      record { same = refl; kept = record { known = shut.known; closed = shut.closed }; fit = refl }
  begins_does p call.WakeSelf w off spared shut =
      record { same = refl; kept = record { known = shut.known; closed = shut.closed }; fit = refl }
  begins_does p (call.PollHandle g b) w off spared shut =
      record { same = refl; kept = record { known = shut.known; closed = shut.closed }; fit = refl }
  begins_does p (call.Cancel g) w off spared shut =
      record { same = refl; kept = record { known = shut.known; closed = shut.closed }; fit = refl }
  begins_does p (call.Detach g) w off spared shut =
      record {
        same = refl;
        kept = record { known = shut.known; closed = shut.closed };
        fit = ap (λ b. b && true) (apart_if g spared);
      }
  begins_does p (call.DropHandle g) w off spared shut =
      record {
        same = refl;
        kept = record { known = shut.known; closed = shut.closed };
        fit = ap (λ b. b && true) (apart_if g spared);
      }
  begins_does p c w off spared shut = absurd cc

pub off_one : (b : Bool) → not b ≡ true → b ≡ false
off_one false is = refl
off_one true is = absurd cc

spares_one : (f : ℕ) (fs : List ℕ) (o : Option ℕ) → spares (f ∷ fs) o ≡ true → spares (f ∷ []) o ≡ true
spares_one f fs None is = refl
spares_one f fs (Some g) is = ap (λ b. not (elim b [ true ↦ true | false ↦ false ])) (parts g f fs is).0

spares_rest : (f : ℕ) (fs : List ℕ) (o : Option ℕ) → spares (f ∷ fs) o ≡ true → spares fs o ≡ true
spares_rest f fs None is = refl
spares_rest f fs (Some g) is = (parts g f fs is).1

-- so are those of all
pub shut_through : (fs : List ℕ) (f : ℕ) (w : World) → IsShut w f → IsShut (without_handles fs w) f
shut_through [] f w shut = shut
shut_through (g ∷ fs) f w shut =
    let v = without_handles fs w in
    put_shut f v g (record (task v g) { handle = false }) (shut_through fs f w shut) (λ c. c)

abbrev pub AllGo : List ℕ → List Op → Type 0
AllGo [] os = Unit {0}
AllGo (f ∷ fs) os = (goes f os ≡ true) × AllGo fs os

pub record AlongAll (fs : List ℕ) (p : ℕ) (hints : List Hint) (there here : Done) : Type 0 where
  pub has : HasAllOf Has p hints there
  pub same : alone p hints there ≡ done (without_handles fs (alone p hints here).world) (alone p hints here).next
  pub shut : AreShut (alone p hints here).world fs

pub all_along : (fs : List ℕ) (p : ℕ) (hints : List Hint) (w : World) (os : List Op) → AreShut w fs → AllGo fs os
    → HasAllOf Has p hints (done w os) → AlongAll fs p hints (done (without_handles fs w) os) (done w os)
all_along [] p hints w os shut go has = record { has = has; same = refl; shut = tt }
all_along (f ∷ fs) p hints w os shut go has =
    let r = all_along fs p hints w os shut.2 go.1 has in
    let v = without_handles fs w in
    let a = one_along f p hints v os (shut_through fs f w shut.0) go.0 r.has in
    record {
      has = a.has;
      same = a.same ∙ ap (λ (d : Done). done (without_handle f d.world) d.next) r.same;
      shut = ((one_along f p hints w os shut.0 go.0 has).kept, shut.1, r.shut);
    }

pub record BegunAll (fs : List ℕ) (below : List Op) (there here : Done) : Type 0 where
  pub same : there ≡ done (without_handles fs here.world) here.next
  pub shut : AreShut here.world fs
  pub go : AllGo fs (here.next ++ below)

pub all_begun : (fs : List ℕ) (p : ℕ) (below : List Op) (c : Call) (w : World) → is_resting below ≡ true → is_on_executor c ≡ false
    → spares fs (handle_in c) ≡ true → AreShut w fs
    → BegunAll fs below (begins p None c (without_handles fs w)) (begins p None c w)
all_begun [] p below c w under off spared shut = record { same = refl; shut = tt; go = tt }
all_begun (f ∷ fs) p below c w under off spared shut =
    let r = all_begun fs p below c w under off (spares_rest f fs (handle_in c) spared) shut.2 in
    let one = spares_one f fs (handle_in c) spared in
    let v = without_handles fs w in
    let d = begins p None c w in
    let a = begins_does f p c w off one shut.0 in
    record {
      same =
          (begins_does f p c v off one (shut_through fs f w shut.0)).same
          ∙ ap (λ (d : Done). done (without_handle f d.world) d.next) r.same;
      shut = (a.kept, shut.1, r.shut);
      go = (
        goes_append (less f) (is_beside f) (Shut f) d.next below a.fit (resting_goes (less f) (is_beside f) (Shut f) below under),
        r.go,
      );
    }

wakers_through : (fs : List ℕ) (w : World) → (without_handles fs w).wakers ≡ w.wakers
wakers_through [] w = refl
wakers_through (f ∷ fs) w = wakers_through fs w

-- the trace and who sleeps are as they were
pub trace_through : (fs : List ℕ) (w : World) → (without_handles fs w).trace ≡ w.trace
trace_through [] w = refl
trace_through (f ∷ fs) w = trace_through fs w

pub sleepers_through : (fs : List ℕ) (w : World) → (without_handles fs w).sleepers ≡ w.sleepers
sleepers_through [] w = refl
sleepers_through (f ∷ fs) w = sleepers_through fs w

pub closed_through : (fs : List ℕ) (g : ℕ) (w : World) → AreShut w fs → (task (without_handles fs w) g).closed ≡ (task w g).closed
closed_through [] g w shut = refl
closed_through (f ∷ fs) g w shut =
    let v = without_handles fs w in
    ap (λ (s : State). s.closed) (task_less f v (shut_through fs f w shut.0).known g) ∙ closed_through fs g w shut.2

pub many_through : (fs : List ℕ) (w : World) → length (without_handles fs w).tasks ≡ length w.tasks
many_through [] w = refl
many_through (f ∷ fs) w =
    let v = without_handles fs w in length_set v.tasks f (record (task v f) { handle = false }) ∙ many_through fs w

module _ (fs : List ℕ) (w : World) where
  abbrev v : World
  v = without_handles fs w

  kept_there : (k f : ℕ) → kept w k ≡ Some f → kept v k ≡ Some f
  kept_there k f is = ap (λ ws. slice_index_or ws k None) (wakers_through fs w) ∙ is

  pub call_there : (c : Call) (x : plain.Call Output Waker) → is_on_executor c ≡ false → IsCall w c x → IsCall v c x
  call_there c x off (use_waker k f is) = use_waker k f (kept_there k f is)
  call_there c x off (wake k f is) = wake k f (kept_there k f is)
  call_there c x off (copy k f is) = copy k f (kept_there k f is)
  call_there c x off (release k f is) = release k f (kept_there k f is)
  call_there c x off (poll_handle f b) = poll_handle f b
  call_there c x off (cancel f) = cancel f
  call_there c x off (detach f) = detach f
  call_there c x off (drop_handle f) = drop_handle f
  call_there c x off is = absurd cc

  -- a call that comes to the drop of another output
  module _ (p : ℕ) (below : List Op) (under : is_resting below ≡ true) (q : Plain Output Waker) (follows : Follows v q)
      (d : Choice) (hints : List Hint) where
    record ComesTo (c : Call) (x : plain.Call Output Waker) : Type 0 where
      future : ℕ
      spared : not (among future fs) ≡ true
      stops : StopsLosing future below q (called p hints below c v) (does wakes d x q)

    comes_to : (c : Call) (x : plain.Call Output Waker) → is_on_executor c ≡ false → IsCall w c x → spares fs (handle_in c) ≡ true
        → loses x q ≡ true → HasAll p hints (upon below (begins p None c v)) → is_resting (called p hints below c v).next ≡ true
        → ComesTo c x
    comes_to c x off (detach f) spared some has rests =
        record {
          future = f;
          spared = spared;
          stops = detaches_to_lose p None below v q under follows d f some hints has rests;
        }
    comes_to c x off (drop_handle f) spared some has rests =
        record { future = f; spared = spared; stops = goes_to_lose p None below v q under follows d f some hints has rests }
    comes_to c x off is spared some has rests = absurd cc

  module _ (p : ℕ) (below : List Op) (under : is_resting below ≡ true) (q : Plain Output Waker) (losing : AreLosing w fs q)
      (d : Choice) (hints : List Hint) (c : Call) (x : plain.Call Output Waker) (is : IsCallInLoss fs w c x)
      (has : HasAll p hints (upon below (begins p None c w))) (rests : is_resting (called p hints below c w).next ≡ true) where
    abbrev e : Done
    e = called p hints below c w

    begun : BegunAll fs below (begins p None c v) (begins p None c w)
    begun = all_begun fs p below c w under is.off is.spared losing.shut

    along : AlongAll fs p hints (done (without_handles fs (begins p None c w).world) ((begins p None c w).next ++ below))
        (upon below (begins p None c w))
    along = all_along fs p hints (begins p None c w).world ((begins p None c w).next ++ below) begun.shut begun.go has

    has_there : HasAll p hints (upon below (begins p None c v))
    has_there = subst (λ d. HasAll p hints (upon below d)) (sym begun.same) along.has

    same : called p hints below c v ≡ done (without_handles fs e.world) e.next
    same = ap (λ d. alone p hints (upon below d)) begun.same ∙ along.same

    rests_there : is_resting (called p hints below c v).next ≡ true
    rests_there = ap (λ (e : Done). is_resting e.next) same ∙ rests

    ends_so : loses x q ≡ false → length q.lying ≤ d.tells
        → (r : Refusal) × (e.next ≡ below) × AreLosing e.world fs (does wakes (record d { refusal = r }) x q)
    ends_so stays many =
        let road =
        call_so p below under v v.table q losing.follows d many c x is.off (call_there c x is.off is.is) stays hints has_there
        rests_there in
        let z : Plain Output Waker = does wakes (record d { refusal = road.0 }) x q in (
          road.0,
          sym (ap (λ (e : Done). e.next) same) ∙ road.1,
          record { shut = along.shut; follows = subst (λ (e : Done). Follows e.world z) same road.2 },
        )

    loses_so : loses x q ≡ true
        → (f : ℕ) × (e.next ≡ op.User (user_op.DropOutput f) ∷ (left_of f ++ below))
        × ((does wakes d x q).inside ≡ Lose None None ∷ q.inside) × AreLosing e.world (f ∷ fs) (does wakes d x q)
    loses_so some =
        let comes = comes_to p below under q losing.follows d hints c x is.off is.is is.spared some has_there rests_there in
        let f : ℕ = comes.future in
        let z : Plain Output Waker = does wakes d x q in
        let stops : StopsLosing f below q (done (without_handles fs e.world) e.next) z =
        subst (λ (e : Done). StopsLosing f below q e z) same comes.stops in (
          f,
          stops.left,
          stops.inside,
          record {
            shut = (
              record {
                known = subst (λ n. f < n) (many_through fs e.world) stops.losing.known;
                closed = sym (closed_through fs f e.world along.shut) ∙ stops.losing.closed;
              },
              off_one (among f fs) comes.spared,
              along.shut,
            );
            follows = stops.losing.follows;
          },
        )

pub calls_in_loss : InAnyLoss CallsInLoss
calls_in_loss p fs below w q d hints c x under losing is stays many has rests =
    ends_so fs w p below under q losing d hints c x is has rests stays many

pub loses_in_loss : InAnyLoss LosesInLoss
loses_in_loss p fs below w q d hints c x under losing is some has rests =
    loses_so fs w p below under q losing d hints c x is has rests some

-- the drop of the output ends
pub left_goes : (f : ℕ) (fs : List ℕ) (below : List Op) → is_resting below ≡ true → among f fs ≡ false → AllGo fs (left_of f ++ below)
left_goes f [] below under apart = tt
left_goes f (g ∷ fs) below under apart =
    let both = parts f g fs (ap not apart) in (
      goes_append (less g) (is_beside g) (Shut g) (left_of f) below (ap (λ b. not b && true) (turned f g both.0))
          (resting_goes (less g) (is_beside g) (Shut g) below under),
      left_goes f fs below under (off_one (among f fs) both.1),
    )

pub loss_ends_in_loss : InAnyLoss LossEndsInLoss
loss_ends_in_loss p fs below w q d hints f under losing has rests =
    let v = without_handles fs w in
    let os = left_of f ++ below in
    let e : Done = alone p hints (done w os) in
    let along : AlongAll fs p hints (done v os) (done w os) =
    all_along fs p hints w os losing.shut.2 (left_goes f fs below under losing.shut.1) has in
    let shut = shut_through fs f w losing.shut.0 in
    let it : IsLosing v f q = record { known = shut.known; closed = shut.closed; follows = losing.follows } in
    let z : Plain Output Waker = does wakes d Ends (record q { inside = Lose None None ∷ q.inside }) in
    let road = loses_alike p f below v q d under it hints tt along.has (ap (λ (e : Done). is_resting e.next) along.same ∙ rests) in (
      sym (ap (λ (e : Done). e.next) along.same) ∙ road.0,
      record { shut = along.shut; follows = subst (λ (e : Done). Follows e.world z) along.same road.1 },
    )
