-- A call of a waker or of a handle that begins in the drop of an output that nobody can take, and the ends of drops of outputs inside of
-- that: where the party rests next both stand so again.
use Rattle.std.proofs.Common.{◌≡◌, ℕ, ◌<◌, ◌≤◌, ◌++◌, Bool, true, false, List, [], ◌∷◌, length, Option, Some, None, is_some}
use Rattle.std.proofs.Common.{refl, sym, ap, subst, ◌∙◌, arith}
use Rattle.std.specs.Prelude.{reverse}
use Rattle.executor_model.specs.declared.call.Call.{Call}
use Rattle.executor_model.specs.declared.op.Awaiter.{Awaiter}
use Rattle.executor_model.specs.declared.op.Op.{Op}
use Rattle.executor_model.specs.declared.op.Op.TheVariants as op
use Rattle.executor_model.specs.declared.op.UserOp.TheVariants as user_op
use Rattle.executor_model.specs.declared.op.Waker.{Waker}
use Rattle.executor_model.specs.declared.step.Hint.{Hint}
use Rattle.executor_model.specs.declared.step.UserEnd.{UserEnd}
use Rattle.executor_model.specs.Rows.{giving_of}
use Rattle.executor_model.specs.Steps.{Machine, accepts, begin_refusal, is_on_executor, mine, stack, top}
use Rattle.executor_model.specs.Weights.{weigh}
use Rattle.executor_model.specs.World.{Done, World, awaiter_of, done, task}
use Rattle.executor_model.proofs.Steps.Lists.{weigh-append}
use Rattle.executor_model.proofs.Steps.Reached.{Reached}
use Rattle.plain_scheduler.specs.State.{Choice, Code, Granted, Lose, Plain, Refusal, Taker}
use Rattle.plain_scheduler.specs.Calls as plain
use Rattle.machine_roads.specs.View.{Output, waker_in}
use Rattle.machine_roads.specs.Road.{waking_in}
use Rattle.machine_roads.specs.Alone.{is_resting, HasAllBy, HasAllOf}
use Rattle.machine_roads.specs.Alike.{begins, upon}
use Rattle.machine_roads.specs.Closing.{loses}
use Rattle.machine_roads.specs.Dropped.{loses as loses_by, rest_of, without_run}
use Rattle.machine_roads.specs.InLoss.{loss_codes, loss_ops, without_handles}
use Rattle.machine_roads.specs.Losing.{left_of}
use Rattle.machine_roads.specs.Untaken.{HasBeside, IsCallBeside, StandsUntaken, polls}
use Rattle.machine_roads.specs.Within.{GoesOnBy, Nested, StandsAlike, StopsUntaken, dropping}
use Rattle.machine_roads.specs.Within.{standing, untaken}
use Rattle.machine_roads.proofs.Endings.{ending_as}
use Rattle.machine_roads.proofs.ActBegins.{choice_in, enough}
use Rattle.machine_roads.proofs.LossActs.{BeginsSo, CallsLose, CallsStay, CodesEnd, EndsSo, all_rest, loss_begins, loss_ends, no_poll_at}
use Rattle.machine_roads.proofs.Along.{goes_append}
use Rattle.machine_roads.proofs.BesideHere.{Asked, beside_all}
use Rattle.machine_roads.proofs.Counting.{Counted}
use Rattle.machine_roads.proofs.Having.{same_self}
use Rattle.machine_roads.proofs.InDrop.{stays_inside}
use Rattle.machine_roads.proofs.Owing.{Kept, is_aside}
use Rattle.machine_roads.proofs.Untaken.{begins_does, calls_beside, loses_beside, loss_ends_beside, owing, resting_on}
use Rattle.machine_roads.proofs.Unseen.{stands_in}

owed_below : (f : ℕ) (hs : List ℕ) (base : List Op) → 1 ≤ weigh (giving_of f) base → 1 ≤ weigh (giving_of f) (loss_ops hs base)
owed_below f [] base owes = owes
owed_below f (h ∷ hs) base owes = omega (arith, owed_below f hs base owes)

module _ (s : Machine) (p : ℕ) (q : Plain Output Waker) (f : ℕ) (awaiter : Option Waker) (gs : List ℕ) (base : List Op)
    (codes : List (Code Output Waker)) (next : reverse (stack s p) ≡ loss_ops gs base) (at : q.inside ≡ loss_codes gs codes)
    (stands : StandsUntaken s.world f awaiter gs q) (no_poll : mine (top (stack s p)) ≡ None)
    (under : is_resting base ≡ true) (owes : 1 ≤ weigh (giving_of f) base) (counted : Counted (reverse (stack s p)) q.runs)
    (place : (hs : List ℕ) (e : Done) (z : Plain Output Waker) → e.next ≡ loss_ops hs base → z.inside ≡ loss_codes hs codes
    → StandsUntaken e.world f awaiter hs z → StandsAlike e z) where
  abbrev Stands : World → List ℕ → Plain Output Waker → Type 0
  Stands w hs z = StandsUntaken w f awaiter hs z

  abbrev choice : Refusal → Choice
  choice r = choice_in s q r

  abbrev lost : plain.Call Output Waker → Bool
  lost x = loses x q

  abbrev Fits : Call → plain.Call Output Waker → Type 0
  Fits c x = polls f c ≡ false

  has_all : (c : Call) → is_on_executor c ≡ false → polls f c ≡ false → (hints : List Hint)
      → HasAllBy (Asked f awaiter) p hints (upon (loss_ops gs base) (begins p None c s.world))
      → HasAllOf (HasBeside f) p hints (upon (loss_ops gs base) (begins p None c s.world))
  has_all c off unpolled hints has =
      let d = begins p None c s.world in
      let os = loss_ops gs base in
      let begun = begins_does f awaiter p c s.world off unpolled (owing f awaiter s.world gs q stands) in
      beside_all f awaiter p hints d.world (d.next ++ os) begun.kept
      (goes_append (without_run f) (is_aside f awaiter) (Kept f awaiter) d.next os begun.fit
      (resting_on f awaiter os (all_rest base under gs)))
      (omega (arith, owed_below f gs base owes, weigh-append (giving_of f) d.next os)) has

  stays : CallsStay s p q gs base codes Stands (Asked f awaiter) lost Fits
  stays c x off spared is unpolled hints has rests none =
      let it : IsCallBeside f gs s.world c x = record { unpolled = unpolled; is = record { off = off; spared = spared; is = is } } in
      let so =
      calls_beside p f awaiter gs (loss_ops gs base) s.world q (choice Granted) hints c x (all_rest base under gs) stands it none
      (enough (length q.lying)) (has_all c off unpolled hints has) rests in
      (so.0, so.1, stays_inside s.world c x (choice so.0) q off is none, so.2)

  loses_one : CallsLose s p q gs base codes Stands (Asked f awaiter) lost Fits
  loses_one c x off spared is unpolled hints has rests some =
      let it : IsCallBeside f gs s.world c x = record { unpolled = unpolled; is = record { off = off; spared = spared; is = is } } in
      loses_beside p f awaiter gs (loss_ops gs base) s.world q (choice Granted) hints c x (all_rest base under gs) stands it some
      (has_all c off unpolled hints has) rests

  ends : CodesEnd s p q gs base codes Stands (Asked f awaiter) lost Fits
  ends g hs is hints has rests =
      let inside = loss_codes hs codes in
      let q0 : Plain Output Waker = record q { inside = inside } in
      let there : StandsUntaken s.world f awaiter (g ∷ hs) q = subst (λ gs. StandsUntaken s.world f awaiter gs q) is stands in
      let it : StandsUntaken s.world f awaiter (g ∷ hs) q0 =
      ending_as there (record {
        shut = there.follows.shut;
        follows =
            stands_in inside (without_handles (g ∷ hs) (without_run f s.world)) q there.follows.follows
            (sym (ap (λ codes. waking_in codes) (at ∙ ap (λ gs. loss_codes gs codes) is)));
      }) in
      let has_all : HasAllOf (HasBeside f) p hints (done s.world (left_of g ++ loss_ops hs base)) =
      beside_all f awaiter p hints s.world (left_of g ++ loss_ops hs base) (owing f awaiter s.world (g ∷ hs) q there)
      (goes_append (without_run f) (is_aside f awaiter) (Kept f awaiter) (left_of g) (loss_ops hs base) refl
      (resting_on f awaiter (loss_ops hs base) (all_rest base under hs)))
      (omega (arith, owed_below f hs base owes, weigh-append (giving_of f) (left_of g) (loss_ops hs base))) has in
      loss_ends_beside p f awaiter hs (loss_ops hs base) s.world q0 (choice Granted) hints g (all_rest base under hs) it has_all rests

  pub begins_beside : Reached s → p < length s.parties → (c : Call) → is_on_executor c ≡ false → polls f c ≡ false
      → begin_refusal s.world s.parties (top (stack s p)) c ≡ None → BeginsSo (Asked f awaiter) s p q c
  begins_beside reached there c off unpolled may =
      loss_begins s p q gs base codes Stands (Asked f awaiter) lost Fits next at no_poll under counted place stays loses_one reached there
      c off may (λ x is all. unpolled)

  pub ends_beside : (g : ℕ) (hs : List ℕ) → gs ≡ g ∷ hs → (u : UserEnd) → accepts (op.User (user_op.DropOutput g)) u ≡ true
      → EndsSo (Asked f awaiter) s p q g (loss_ops hs base) u
  ends_beside g hs is u ok =
      loss_ends s p q gs base codes Stands (Asked f awaiter) lost Fits next at no_poll under counted place ends g hs is u ok

is_waker : (o : Option Awaiter) → is_some o ≡ is_some (waker_in o)
is_waker None = refl
is_waker (Some a) = refl

-- who awaits the task is there as it was
pub awaited_so : (w : World) (f : ℕ) (awaiter : Option Waker) (gs : List ℕ) (q : Plain Output Waker) → StandsUntaken w f awaiter gs q
    → (task w f).awaiter ≡ is_some awaiter
awaited_so w f awaiter gs q stands =
    stands.stored.awaiter ∙ (is_waker (awaiter_of w f) ∙ ap (λ o. is_some o) stands.awaited)

module _ (taker : Taker Waker) (final : Op) (below : List Op) (f : ℕ) (awaiter : Option Waker) (codes : List (Code Output Waker))
    (it : GoesOnBy taker final) (nested : Nested below codes) where
  abbrev pub base : Bool → List Op
  base b = op.User (user_op.DropOutput f) ∷ (rest_of b f final ++ below)

  pub owed_base : (b : Bool) → 1 ≤ weigh (giving_of f) (base b)
  owed_base true = omega (arith, same_self f)
  owed_base false = omega (arith, same_self f)

  pub place_so : (hs : List ℕ) (e : Done) (z : Plain Output Waker) → e.next ≡ loss_ops hs (base (is_some awaiter))
      → z.inside ≡ loss_codes hs (Lose awaiter (Some taker) ∷ codes) → StandsUntaken e.world f awaiter hs z → StandsAlike e z
  place_so [] e z next inside stands =
      dropping taker final below f (record z { inside = codes }) it nested
      (loses_by awaiter (next ∙ ap base (sym (awaited_so e.world f awaiter [] z stands))) inside
      (ending_as stands stands.follows.follows))
  place_so (h ∷ hs) e z next inside stands =
      untaken taker final below f awaiter h hs codes it nested (record { left = next; inside = inside; stands = stands })

  module _ (s : Machine) (p : ℕ) (q : Plain Output Waker) (counted : Counted (reverse (stack s p)) q.runs) where
    untaken_poll : (gs : List ℕ) (b : Bool) → reverse (stack s p) ≡ loss_ops gs (base b) → mine (top (stack s p)) ≡ None
    untaken_poll [] b next = no_poll_at s p (op.User (user_op.DropOutput f)) (rest_of b f final ++ below) refl next
    untaken_poll (g ∷ gs) b next = no_poll_at s p (op.User (user_op.DropOutput g)) (left_of g ++ loss_ops gs (base b)) refl next

    pub begins_untaken : (gs : List ℕ) → StopsUntaken taker final below f awaiter gs codes (standing s p) q → Reached s
        → p < length s.parties → (c : Call) → is_on_executor c ≡ false → polls f c ≡ false
        → begin_refusal s.world s.parties (top (stack s p)) c ≡ None
        → BeginsSo (Asked f awaiter) s p q c
    begins_untaken gs stops reached there c off unpolled may =
        begins_beside s p q f awaiter gs (base (is_some awaiter)) (Lose awaiter (Some taker) ∷ codes) stops.left stops.inside stops.stands
        (untaken_poll gs (is_some awaiter) stops.left) refl (owed_base (is_some awaiter)) counted place_so reached there c off unpolled may

    pub ends_untaken : (g : ℕ) (gs : List ℕ) → StopsUntaken taker final below f awaiter (g ∷ gs) codes (standing s p) q → (u : UserEnd)
        → accepts (op.User (user_op.DropOutput g)) u ≡ true
        → EndsSo (Asked f awaiter) s p q g (loss_ops gs (base (is_some awaiter))) u
    ends_untaken g gs stops u ok =
        ends_beside s p q f awaiter (g ∷ gs) (base (is_some awaiter)) (Lose awaiter (Some taker) ∷ codes) stops.left stops.inside
        stops.stands (untaken_poll (g ∷ gs) (is_some awaiter) stops.left) refl (owed_base (is_some awaiter)) counted place_so g gs refl u
        ok
