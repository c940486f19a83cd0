-- In the drop of an output that goes with its handle, in the executor's drop, calls of wakers and of other handles leave both so.
use Rattle.std.proofs.Common.{◌≡◌, ℕ, ◌<◌, ◌++◌, true, false, List, [], ◌∷◌, None, refl, sym, ap, subst, ◌∙◌}
use Rattle.executor_model.specs.declared.call.Call.{Call}
use Rattle.executor_model.specs.declared.op.Op.{Op}
use Rattle.executor_model.specs.declared.op.Op.TheVariants as op
use Rattle.executor_model.specs.declared.op.UserOp.TheVariants as user_op
use Rattle.executor_model.specs.declared.op.Waker.{Waker}
use Rattle.executor_model.specs.declared.step.Hint.{Hint}
use Rattle.executor_model.specs.World.{World, Done, among, done}
use Rattle.plain_scheduler.specs.State.{Choice, Close, Code, Lose, Plain, Refusal}
use Rattle.plain_scheduler.specs.Calls as plain
use Rattle.plain_scheduler.specs.Calls.{does, Ends}
use Rattle.machine_roads.specs.View.{Output, wakes}
use Rattle.machine_roads.specs.Road.{waking_in}
use Rattle.machine_roads.specs.Alone.{alone, is_resting, HasAll}
use Rattle.machine_roads.specs.Alike.{begins, upon}
use Rattle.machine_roads.specs.Closing.{IsInDropBelow, IsLosingInDropBelow, called, loses}
use Rattle.machine_roads.specs.DropActs.{AreLosingInDrop}
use Rattle.machine_roads.specs.InLoss.{IsCallInLoss, loss_codes, spares, without_handles}
use Rattle.machine_roads.specs.Losing.{left_of, lost}
use Rattle.machine_roads.proofs.InDrop.{call_in, lose_in, loss_ends_below}
use Rattle.machine_roads.proofs.InLoss.{AlongAll, BegunAll, all_along, all_begun, call_there, closed_through, left_goes, many_through}
use Rattle.machine_roads.proofs.InLoss.{off_one, shut_through}
use Rattle.machine_roads.proofs.Unseen.{stands_in}

-- in other code inside of the drop
below_so : (over new : List (Code Output Waker)) (w : World) (fs all : List ℕ) (q : Plain Output Waker) (inside : List (Code Output Waker))
    → inside ≡ new ++ Close fs all ∷ [] → waking_in inside ≡ waking_in q.inside → IsInDropBelow over w fs all [] q
    → IsInDropBelow new w fs all [] (record q { inside = inside })
below_so over new w fs all q inside at same is = record {
  table = is.table;
  leaving = is.leaving;
  parts = is.parts;
  inside = at;
  nowhere = is.nowhere;
  follows = stands_in inside (record w { table = fs }) q is.follows same;
  nobody = is.nobody;
  opened = is.opened;
  unkept = is.unkept;
  waiting = is.waiting;
}

module _ (p : ℕ) (gs : List ℕ) (below : List Op) (w : World) (fs all : List ℕ) (q : Plain Output Waker) (d : Choice) (hints : List Hint)
    (under : is_resting below ≡ true) where
  abbrev over : List (Code Output Waker)
  over = loss_codes gs []

  module _ (losing : AreLosingInDrop w gs fs all q) (c : Call) (x : plain.Call Output Waker) (is : IsCallInLoss gs w c x)
      (has : HasAll p hints (upon below (begins p None c w))) (rests : is_resting (called p hints below c w).next ≡ true) where
    abbrev e : Done
    e = called p hints below c w

    abbrev v : World
    v = without_handles gs w

    begun : BegunAll gs below (begins p None c v) (begins p None c w)
    begun = all_begun gs p below c w under is.off is.spared losing.shut

    along : AlongAll gs p hints (done (without_handles gs (begins p None c w).world) ((begins p None c w).next ++ below))
        (upon below (begins p None c w))
    along = all_along gs p hints (begins p None c w).world ((begins p None c w).next ++ below) begun.shut begun.go has

    has_there : HasAll p hints (upon below (begins p None c v))
    has_there = subst (λ d. HasAll p hints (upon below d)) (sym begun.same) along.has

    same : called p hints below c v ≡ done (without_handles gs e.world) e.next
    same = ap (λ d. alone p hints (upon below d)) begun.same ∙ along.same

    rests_there : is_resting (called p hints below c v).next ≡ true
    rests_there = ap (λ (e : Done). is_resting e.next) same ∙ rests

    pub call_ends : loses x q ≡ false
        → (r : Refusal) × (e.next ≡ below) × AreLosingInDrop e.world gs fs all (does wakes (record d { refusal = r }) x q)
    call_ends stays =
        let so =
        call_in over fs all [] p below under v q losing.left d hints c x is.off (call_there gs w c x is.off is.is) has_there rests_there
        stays in
        let z : Plain Output Waker = does wakes (record d { refusal = so.0 }) x q in (
          so.0,
          sym (ap (λ (e : Done). e.next) same) ∙ so.1,
          record { shut = along.shut; left = subst (λ (e : Done). IsInDropBelow over e.world fs all [] z) same so.2 },
        )

    pub call_loses : loses x q ≡ true
        → (f : ℕ) × (e.next ≡ op.User (user_op.DropOutput f) ∷ (left_of f ++ below))
        × AreLosingInDrop e.world (f ∷ gs) fs all (does wakes d x q)
    call_loses some =
        let so =
        lose_in over fs all [] p below under v q losing.left d hints c x is.off (call_there gs w c x is.off is.is) has_there rests_there
        some in
        let f : ℕ = so.0 in
        let z : Plain Output Waker = does wakes d x q in
        let y : Plain Output Waker = record z { inside = q.inside } in
        let it : IsLosingInDropBelow over (without_handles gs e.world) f fs all [] y =
        subst (λ (e : Done). IsLosingInDropBelow over e.world f fs all [] y) same so.4 in (
          f,
          sym (ap (λ (e : Done). e.next) same) ∙ so.2,
          record {
            shut = (
              record {
                known = subst (λ n. f < n) (many_through gs e.world) it.known;
                closed = sym (closed_through gs f e.world along.shut) ∙ it.closed;
              },
              off_one (among f gs) (subst (λ o. spares gs o ≡ true) so.1 is.spared),
              along.shut,
            );
            left =
                below_so over (Lose None None ∷ over) (without_handles (f ∷ gs) e.world) fs all y z.inside
                (so.3 ∙ ap (λ codes. Lose None None ∷ codes) losing.left.inside) (ap (λ codes. waking_in codes) so.3) it.left;
          },
        )

  -- the innermost of these drops ends
  pub drop_ends_so : (f : ℕ) → AreLosingInDrop w (f ∷ gs) fs all q → HasAll p hints (upon below (lost p f w))
      → is_resting (alone p hints (upon below (lost p f w))).next ≡ true
      → ((alone p hints (upon below (lost p f w))).next ≡ below)
      × AreLosingInDrop (alone p hints (upon below (lost p f w))).world gs fs all (does wakes d Ends q)
  drop_ends_so f losing has rests =
      let v = without_handles gs w in
      let os = left_of f ++ below in
      let e : Done = alone p hints (done w os) in
      let along : AlongAll gs p hints (done v os) (done w os) =
      all_along gs p hints w os losing.shut.2 (left_goes f gs below under losing.shut.1) has in
      let shut = shut_through gs f w losing.shut.0 in
      let inside : List (Code Output Waker) = over ++ Close fs all ∷ [] in
      let q0 : Plain Output Waker = record q { inside = inside } in
      let q1 : Plain Output Waker = record q { inside = Lose None None ∷ inside } in
      let at_q : q1 ≡ q = ap (λ (codes : List (Code Output Waker)). record q { inside = codes }) (sym losing.left.inside) in
      let it : IsLosingInDropBelow over v f fs all [] q0 =
      record {
        known = shut.known;
        closed = shut.closed;
        left =
            below_so (Lose None None ∷ over) over (without_handles (f ∷ gs) w) fs all q inside refl
            (sym (ap (λ codes. waking_in codes) losing.left.inside)) losing.left;
      } in
      let so =
      loss_ends_below over p f below v fs all [] q0 d hints under it along.has (ap (λ (e : Done). is_resting e.next) along.same ∙ rests) in
      let z : Plain Output Waker = does wakes d Ends q1 in (
        sym (ap (λ (e : Done). e.next) along.same) ∙ so.0,
        subst (λ y. AreLosingInDrop e.world gs fs all (does wakes d Ends y)) at_q
            (record { shut = along.shut; left = subst (λ (e : Done). IsInDropBelow over e.world fs all [] z) along.same so.1 }),
      )
