-- A call of a waker or of another handle that begins in the drop of an output that goes with its handle, and the end of that drop, also of
-- such drops one inside another: where the party rests next both stand alike, but for the handles that go there.
use Rattle.std.proofs.Common.{◌≡◌, ℕ, ◌<◌, ◌++◌, Bool, true, false, List, [], ◌∷◌, length, None}
use Rattle.std.proofs.Common.{refl, sym, ap, subst, ◌∙◌}
use Rattle.std.specs.Prelude.{reverse}
use Rattle.executor_model.specs.declared.call.Call.{Call}
use Rattle.executor_model.specs.declared.op.Op.{Op}
use Rattle.executor_model.specs.declared.op.Op.TheVariants as op
use Rattle.executor_model.specs.declared.op.UserOp.TheVariants as user_op
use Rattle.executor_model.specs.declared.op.Waker.{Waker}
use Rattle.executor_model.specs.declared.step.UserEnd.{UserEnd}
use Rattle.executor_model.specs.Steps.{Machine, accepts, begin_refusal, is_on_executor, mine}
use Rattle.executor_model.specs.Steps.{stack, top}
use Rattle.executor_model.specs.Weights.{same}
use Rattle.executor_model.specs.World.{Done, World}
use Rattle.executor_model.proofs.Steps.Reached.{Reached}
use Rattle.plain_scheduler.specs.State.{Choice, Code, Done as IsDone, DropOwn, Granted, Plain, Refusal, Running}
use Rattle.plain_scheduler.specs.Calls as plain
use Rattle.plain_scheduler.specs.Calls.{does}
use Rattle.machine_roads.specs.View.{Output, wakes}
use Rattle.machine_roads.specs.Road.{waking_in}
use Rattle.machine_roads.specs.Alone.{is_resting, Has, HasFirst}
use Rattle.machine_roads.specs.Closing.{called, loses}
use Rattle.machine_roads.specs.Course.{IsCall}
use Rattle.machine_roads.specs.InLoss.{AreLosing, IsCallInLoss, StopsInLoss, loss_codes, loss_ops, without_handles}
use Rattle.machine_roads.specs.Losing.{left_of}
use Rattle.machine_roads.specs.Within.{IsLeaving, Nested, StandsAlike, StopsGoing, alike, going}
use Rattle.machine_roads.specs.Within.{losing, standing}
use Rattle.machine_roads.proofs.ActBegins.{choice_in, enough}
use Rattle.machine_roads.proofs.Counting.{Counted}
use Rattle.machine_roads.proofs.InDrop.{stays_inside}
use Rattle.machine_roads.proofs.InLoss.{calls_in_loss, loses_in_loss, loss_ends_in_loss}
use Rattle.machine_roads.proofs.Inmost.{rests_in}
use Rattle.machine_roads.proofs.LossActs.{BeginsSo, CallsLose, CallsStay, CodesEnd, EndsSo, all_rest, loss_begins, loss_ends, no_poll_at}
use Rattle.machine_roads.proofs.LossActs.{stays_runs}
use Rattle.machine_roads.proofs.Runs.{changed, ended_run, runs_is}
use Rattle.machine_roads.proofs.RunsAlone.{does_so}
use Rattle.machine_roads.proofs.Unseen.{stands_in}

-- in such drops, above what lies below them, and where both stand alike but that the runs of the plain scheduler are others
module _ (s : Machine) (p : ℕ) (q : Plain Output Waker) (others : List Running → List Running) (gs : List ℕ) (base : List Op)
    (codes : List (Code Output Waker)) (next : reverse (stack s p) ≡ loss_ops gs base) (at : q.inside ≡ loss_codes gs codes)
    (losing : AreLosing s.world gs (record q { runs = others q.runs })) (no_poll : mine (top (stack s p)) ≡ None)
    (under : is_resting base ≡ true) (counted : Counted (reverse (stack s p)) q.runs)
    (place : (hs : List ℕ) (e : Done) (z : Plain Output Waker) → e.next ≡ loss_ops hs base → z.inside ≡ loss_codes hs codes
    → AreLosing e.world hs (record z { runs = others z.runs }) → StandsAlike e z) where
  abbrev over : Plain Output Waker → Plain Output Waker
  over z = record z { runs = others z.runs }

  abbrev Stands : World → List ℕ → Plain Output Waker → Type 0
  Stands w hs z = AreLosing w hs (over z)

  abbrev choice : Refusal → Choice
  choice r = choice_in s q r

  abbrev lost : plain.Call Output Waker → Bool
  lost x = loses x (over q)

  abbrev Fits : Call → plain.Call Output Waker → Type 0
  Fits c x = Unit {0}

  -- whatever runs there are
  over_so : (c : Call) (x : plain.Call Output Waker) → is_on_executor c ≡ false → IsCall s.world c x → (r : Refusal)
      → does wakes (choice r) x (over q) ≡ over (does wakes (choice r) x q)
  over_so c x off is r =
      let z : Plain Output Waker = does wakes (choice r) x q in
      does_so (others q.runs) (choice r) s.world c x q off is
      ∙ ap (λ rs. record z { runs = others rs }) (sym (stays_runs s.world c x (choice r) q off is))

  stays : CallsStay s p q gs base codes Stands (HasFirst Has) lost Fits
  stays c x off spared is fits hints has rests none =
      let it : IsCallInLoss gs s.world c x = record { off = off; spared = spared; is = is } in
      let so =
      calls_in_loss p gs (loss_ops gs base) s.world (over q) (choice Granted) hints c x (all_rest base under gs) losing it none
      (enough (length q.lying)) has rests in
      let same = over_so c x off is so.0 in (
        so.0,
        so.1,
        ap (λ (y : Plain Output Waker). y.inside) (sym same) ∙ stays_inside s.world c x (choice so.0) (over q) off is none,
        subst (AreLosing (called p hints (loss_ops gs base) c s.world).world gs) same so.2,
      )

  loses_one : CallsLose s p q gs base codes Stands (HasFirst Has) lost Fits
  loses_one c x off spared is fits hints has rests some =
      let it : IsCallInLoss gs s.world c x = record { off = off; spared = spared; is = is } in
      let so =
      loses_in_loss p gs (loss_ops gs base) s.world (over q) (choice Granted) hints c x (all_rest base under gs) losing it some has rests in
      let same = over_so c x off is Granted in (
        so.0,
        so.1,
        ap (λ (y : Plain Output Waker). y.inside) (sym same) ∙ so.2,
        subst (AreLosing (called p hints (loss_ops gs base) c s.world).world (so.0 ∷ gs)) same so.3,
      )

  ends : CodesEnd s p q gs base codes Stands (HasFirst Has) lost Fits
  ends f fs is hints has rests =
      let inside = loss_codes fs codes in
      let q0 : Plain Output Waker = record (over q) { inside = inside } in
      let there : AreLosing s.world (f ∷ fs) (over q) = subst (λ gs. AreLosing s.world gs (over q)) is losing in
      let it : AreLosing s.world (f ∷ fs) q0 =
      record {
        shut = there.shut;
        follows =
            stands_in inside (without_handles (f ∷ fs) s.world) (over q) there.follows
            (sym (ap (λ codes. waking_in codes) (at ∙ ap (λ gs. loss_codes gs codes) is)));
      } in
      let so = loss_ends_in_loss p fs (loss_ops fs base) s.world q0 (choice Granted) hints f (all_rest base under fs) it has rests in
      (so.0, so.1)

  pub begins_there : Reached s → p < length s.parties → (c : Call) → is_on_executor c ≡ false
      → begin_refusal s.world s.parties (top (stack s p)) c ≡ None → BeginsSo (HasFirst Has) s p q c
  begins_there reached there c off may =
      loss_begins s p q gs base codes Stands (HasFirst Has) lost Fits next at no_poll under counted place stays loses_one reached there c
      off may (λ x is all. tt)

  pub ends_there : (f : ℕ) (fs : List ℕ) → gs ≡ f ∷ fs → (u : UserEnd) → accepts (op.User (user_op.DropOutput f)) u ≡ true
      → EndsSo (HasFirst Has) s p q f (loss_ops fs base) u
  ends_there f fs is u ok =
      loss_ends s p q gs base codes Stands (HasFirst Has) lost Fits next at no_poll under counted place ends f fs is u ok

module _ (below : List Op) (codes : List (Code Output Waker)) (nested : Nested below codes) where
  -- with nothing below, or a run that goes
  at_loss : (fs : List ℕ) (e : Done) (z : Plain Output Waker) → e.next ≡ loss_ops fs below → z.inside ≡ loss_codes fs codes
      → AreLosing e.world fs z → StandsAlike e z
  at_loss [] e z next inside so =
      alike (subst (λ os. Nested os z.inside) (sym next) (subst (λ codes. Nested below codes) (sym inside) nested)) so.follows
  at_loss (g ∷ gs) e z next inside so = losing g gs below codes nested (record { left = next; inside = inside; losing = so })

  at_going : (r : ℕ) (rest : Op) → IsLeaving r rest → (fs : List ℕ) (e : Done) (z : Plain Output Waker)
      → e.next ≡ loss_ops fs (op.User (user_op.DropOwn r) ∷ rest ∷ below) → z.inside ≡ loss_codes fs (DropOwn r IsDone ∷ codes)
      → AreLosing e.world fs (record z { runs = changed ended_run r z.runs }) → StandsAlike e z
  at_going r rest leaving fs e z next inside so =
      going r fs below codes nested
      (record {
        rest = rest;
        leaving = leaving;
        left = next;
        inside = inside;
        losing = subst (AreLosing e.world fs) (sym (runs_is ended_run r z)) so;
      })

module _ (s : Machine) (p : ℕ) where
  no_poll_going : (fs : List ℕ) (r : ℕ) (os : List Op) → reverse (stack s p) ≡ loss_ops fs (op.User (user_op.DropOwn r) ∷ os)
      → mine (top (stack s p)) ≡ None
  no_poll_going [] r os next = no_poll_at s p (op.User (user_op.DropOwn r)) os refl next
  no_poll_going (f ∷ fs) r os next =
      no_poll_at s p (op.User (user_op.DropOutput f)) (left_of f ++ loss_ops fs (op.User (user_op.DropOwn r) ∷ os)) refl next

module _ (s : Machine) (reached : Reached s) (p : ℕ) (there : p < length s.parties) (q : Plain Output Waker) where
  pub begins_in_loss : (f : ℕ) (fs : List ℕ) (below : List Op) (codes : List (Code Output Waker)) → Nested below codes
      → StopsInLoss (f ∷ fs) below codes (standing s p) q → Counted (reverse (stack s p)) q.runs → (c : Call)
      → is_on_executor c ≡ false → begin_refusal s.world s.parties (top (stack s p)) c ≡ None → BeginsSo (HasFirst Has) s p q c
  begins_in_loss f fs below codes nested stops counted c off may =
      begins_there s p q (λ rs. rs) (f ∷ fs) below codes stops.left stops.inside stops.losing
      (no_poll_at s p (op.User (user_op.DropOutput f)) (left_of f ++ loss_ops fs below) refl stops.left) (rests_in below codes nested)
      counted (at_loss below codes nested) reached there c off may

  pub begins_in_going : (r : ℕ) (fs : List ℕ) (below : List Op) (codes : List (Code Output Waker)) → Nested below codes
      → StopsGoing r fs below codes (standing s p) q → Counted (reverse (stack s p)) q.runs → (c : Call)
      → is_on_executor c ≡ false → begin_refusal s.world s.parties (top (stack s p)) c ≡ None → BeginsSo (HasFirst Has) s p q c
  begins_in_going r fs below codes nested stops counted c off may =
      begins_there s p q (changed ended_run r) fs (op.User (user_op.DropOwn r) ∷ stops.rest ∷ below) (DropOwn r IsDone ∷ codes) stops.left
      stops.inside (subst (AreLosing s.world fs) (runs_is ended_run r q) stops.losing)
      (no_poll_going s p fs r (stops.rest ∷ below) stops.left) refl
      counted (at_going below codes nested r stops.rest stops.leaving) reached there c off may

module _ (s : Machine) (p : ℕ) (q : Plain Output Waker) where
  pub ends_in_loss : (f : ℕ) (fs : List ℕ) (below : List Op) (codes : List (Code Output Waker)) → Nested below codes
      → StopsInLoss (f ∷ fs) below codes (standing s p) q → Counted (reverse (stack s p)) q.runs → (u : UserEnd)
      → accepts (op.User (user_op.DropOutput f)) u ≡ true → EndsSo (HasFirst Has) s p q f (loss_ops fs below) u
  ends_in_loss f fs below codes nested stops counted u ok =
      ends_there s p q (λ rs. rs) (f ∷ fs) below codes stops.left stops.inside stops.losing
      (no_poll_at s p (op.User (user_op.DropOutput f)) (left_of f ++ loss_ops fs below) refl stops.left) (rests_in below codes nested)
      counted (at_loss below codes nested) f fs refl u ok

  pub ends_in_going : (r f : ℕ) (fs : List ℕ) (below : List Op) (codes : List (Code Output Waker)) → Nested below codes
      → (stops : StopsGoing r (f ∷ fs) below codes (standing s p) q) → Counted (reverse (stack s p)) q.runs → (u : UserEnd)
      → accepts (op.User (user_op.DropOutput f)) u ≡ true
      → EndsSo (HasFirst Has) s p q f (loss_ops fs (op.User (user_op.DropOwn r) ∷ stops.rest ∷ below)) u
  ends_in_going r f fs below codes nested stops counted u ok =
      ends_there s p q (changed ended_run r) (f ∷ fs) (op.User (user_op.DropOwn r) ∷ stops.rest ∷ below) (DropOwn r IsDone ∷ codes)
      stops.left stops.inside (subst (AreLosing s.world (f ∷ fs)) (runs_is ended_run r q) stops.losing)
      (no_poll_going s p (f ∷ fs) r (stops.rest ∷ below) stops.left) refl counted
      (at_going below codes nested r stops.rest stops.leaving) f fs refl u ok
