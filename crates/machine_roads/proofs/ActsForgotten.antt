-- A call of a waker or of a handle that begins in the drop of a future that nobody could wake, and the ends of drops of outputs inside of
-- that: where the party rests next both stand so again.
use Rattle.std.proofs.Common.{◌≡◌, ℕ, ◌<◌, ◌==◌, ◌++◌, Bool, true, false, List, [], ◌∷◌, length, Option, Some, None}
use Rattle.std.proofs.Common.{refl, sym, ap, subst, ◌∙◌, arith}
use Rattle.std.specs.Prelude.{reverse}
use Rattle.executor_model.specs.declared.call.Call.{Call}
use Rattle.executor_model.specs.declared.op.Op.{Op}
use Rattle.executor_model.specs.declared.op.Op.TheVariants as op
use Rattle.executor_model.specs.declared.op.UserOp.TheVariants as user_op
use Rattle.executor_model.specs.declared.op.Waker.{Waker}
use Rattle.executor_model.specs.declared.step.UserEnd.{UserEnd}
use Rattle.executor_model.specs.Steps.{Machine, accepts, begin_refusal, has_all, has_handle, is_known, is_on_executor, is_unused, kept}
use Rattle.executor_model.specs.Steps.{mine, stack, top}
use Rattle.executor_model.specs.World.{Done, World, task}
use Rattle.executor_model.proofs.Steps.Reached.{Reached}
use Rattle.plain_scheduler.specs.State.{Choice, Closed, Code, Drop, Granted, Plain, Refusal, Taker}
use Rattle.plain_scheduler.specs.Calls as plain
use Rattle.machine_roads.specs.View.{Output}
use Rattle.machine_roads.specs.Road.{waking_in}
use Rattle.machine_roads.specs.Alone.{is_resting, Has, HasFirst}
use Rattle.machine_roads.specs.Closing.{loses}
use Rattle.machine_roads.specs.InLoss.{loss_codes, loss_ops, without_handles}
use Rattle.machine_roads.specs.Losing.{left_of}
use Rattle.machine_roads.specs.Within.{GoesOnBy, Nested, StandsAlike, StopsForgotten}
use Rattle.machine_roads.specs.Within.{forgetting, forgotten, standing}
use Rattle.machine_roads.proofs.Endings.{forgotten_as, unawaited_in}
use Rattle.machine_roads.proofs.ActBegins.{choice_in, enough}
use Rattle.machine_roads.proofs.LossActs.{BeginsSo, CallsLose, CallsStay, CodesEnd, EndsSo, all_rest, loss_begins, loss_ends, no_poll_at}
use Rattle.machine_roads.proofs.Counting.{Counted}
use Rattle.machine_roads.proofs.InDrop.{stays_inside}
use Rattle.executor_model.specs.declared.op.HandleOp.TheVariants as handle_op
use Rattle.executor_model.specs.declared.op.TableOp.TheVariants as table_op
use Rattle.executor_model.specs.Rows.{handling_of}
use Rattle.executor_model.specs.Sound.{Sound, pend}
use Rattle.executor_model.proofs.Steps.Begins.{kept-used}
use Rattle.executor_model.proofs.Steps.Lists.{wakers_of-used}
use Rattle.executor_model.proofs.Steps.Reached.{good-here}
use Rattle.machine_roads.specs.Course.{IsCall, cancel, copy, detach, drop_handle, poll_handle, release, use_waker, wake}
use Rattle.machine_roads.specs.Forgotten.{without_awaiter}
use Rattle.machine_roads.specs.InForgotten.{IsCallInForgotten, StandsForgotten, is_of}
use Rattle.machine_roads.proofs.InForgotten.{calls_forgotten, loses_forgotten, loss_ends_forgotten}
use Rattle.machine_roads.proofs.Having.{same_self}
use Rattle.machine_roads.proofs.Lists.{clash, same_of}
use Rattle.machine_roads.proofs.LoneRuns.{both_true}

-- no call is of that one: nobody has a waker of it, nor its handle
module _ (s : Machine) (reached : Reached s) (f : ℕ) (spent : (task s.world f).references ≡ 0) (unheld : (task s.world f).handle ≡ false)
  where
    kept_apart : (k g : ℕ) → kept s.world k ≡ Some g → (f == g) ≡ false
    kept_apart k g is = by (f == g) refl
      where
        sound : Sound s.world f (pend f s.parties)
        sound = (good-here s reached).sound f

        by : (b : Bool) → (f == g) ≡ b → b ≡ false
        by false apart = refl
        by true same =
            let here : kept s.world k ≡ Some f = is ∙ ap (λ n. Some n) (sym (same_of f g same)) in
            let one = wakers_of-used f f k s.world.wakers (kept-used s.world k f here) in
            absurd (omega (arith, sound.counted, one, same_self f, spent))

    held_apart : (g : ℕ) → has_handle s.world s.parties g ≡ true → (f == g) ≡ false
    held_apart g has = by (f == g) refl
      where
        held : (task s.world g).handle ≡ true
        held = (both_true ((task s.world g).handle) (is_unused (handling_of g) s.parties) has).0

        by : (b : Bool) → (f == g) ≡ b → b ≡ false
        by false apart = refl
        by true same = absurd (clash unheld (subst (λ n. (task s.world n).handle ≡ true) (sym (same_of f g same)) held))

    apart_made : (c : Call) (x : plain.Call Output Waker) → IsCall s.world c x → is_on_executor c ≡ false
        → (o : Option Op) → has_all s.world s.parties o c ≡ true → is_of f x ≡ false
    apart_made c x (use_waker k g is) off o all = kept_apart k g is
    apart_made c x (wake k g is) off o all = kept_apart k g is
    apart_made c x (copy k g is) off o all = kept_apart k g is
    apart_made c x (release k g is) off o all = kept_apart k g is
    apart_made c x (poll_handle g b) off o all = held_apart g (both_true (has_handle s.world s.parties g) (is_known o b) all).0
    apart_made c x (cancel g) off o all = held_apart g all
    apart_made c x (detach g) off o all = held_apart g all
    apart_made c x (drop_handle g) off o all = held_apart g all
    apart_made c x is off o all = absurd cc

module _ (s : Machine) (p : ℕ) (q : Plain Output Waker) (f : ℕ) (gs : List ℕ) (base : List Op)
    (codes : List (Code Output Waker)) (next : reverse (stack s p) ≡ loss_ops gs base) (at : q.inside ≡ loss_codes gs codes)
    (stands : StandsForgotten s.world f gs q) (no_poll : mine (top (stack s p)) ≡ None)
    (under : is_resting base ≡ true) (counted : Counted (reverse (stack s p)) q.runs)
    (place : (hs : List ℕ) (e : Done) (z : Plain Output Waker) → e.next ≡ loss_ops hs base → z.inside ≡ loss_codes hs codes
    → StandsForgotten e.world f hs z → StandsAlike e z) where
  abbrev Stands : World → List ℕ → Plain Output Waker → Type 0
  Stands w hs z = StandsForgotten w f hs z

  abbrev choice : Refusal → Choice
  choice r = choice_in s q r

  abbrev lost : plain.Call Output Waker → Bool
  lost x = loses x q

  abbrev Fits : Call → plain.Call Output Waker → Type 0
  Fits c x = is_of f x ≡ false

  stays : CallsStay s p q gs base codes Stands (HasFirst Has) lost Fits
  stays c x off spared is apart hints has rests none =
      let it : IsCallInForgotten f gs s.world c x = record { apart = apart; is = record { off = off; spared = spared; is = is } } in
      let so =
      calls_forgotten p f gs (loss_ops gs base) s.world q (choice Granted) hints c x (all_rest base under gs) stands it none
      (enough (length q.lying)) has rests in
      (so.0, so.1, stays_inside s.world c x (choice so.0) q off is none, so.2)

  loses_one : CallsLose s p q gs base codes Stands (HasFirst Has) lost Fits
  loses_one c x off spared is apart hints has rests some =
      let it : IsCallInForgotten f gs s.world c x = record { apart = apart; is = record { off = off; spared = spared; is = is } } in
      loses_forgotten p f gs (loss_ops gs base) s.world q (choice Granted) hints c x (all_rest base under gs) stands it some has rests

  ends : CodesEnd s p q gs base codes Stands (HasFirst Has) lost Fits
  ends g hs is hints has rests =
      let inside = loss_codes hs codes in
      let q0 : Plain Output Waker = record q { inside = inside } in
      let there : StandsForgotten s.world f (g ∷ hs) q = subst (λ gs. StandsForgotten s.world f gs q) is stands in
      let it : StandsForgotten s.world f (g ∷ hs) q0 =
      forgotten_as inside there
      (record {
        shut = there.follows.shut;
        follows =
            unawaited_in f inside (without_handles (g ∷ hs) (without_awaiter f s.world)) q there.follows.follows
            (sym (ap (λ codes. waking_in codes) (at ∙ ap (λ gs. loss_codes gs codes) is)));
      }) in
      loss_ends_forgotten p f hs (loss_ops hs base) s.world q0 (choice Granted) hints g (all_rest base under hs) it has rests

  pub begins_there : Reached s → p < length s.parties → (c : Call) → is_on_executor c ≡ false
      → begin_refusal s.world s.parties (top (stack s p)) c ≡ None → BeginsSo (HasFirst Has) s p q c
  begins_there reached there c off may =
      loss_begins s p q gs base codes Stands (HasFirst Has) lost Fits next at no_poll under counted place stays loses_one reached there c
      off may (λ x is all. apart_made s reached f stands.spent stands.unheld c x is off (top (stack s p)) all)

  pub ends_there : (g : ℕ) (hs : List ℕ) → gs ≡ g ∷ hs → (u : UserEnd) → accepts (op.User (user_op.DropOutput g)) u ≡ true
      → EndsSo (HasFirst Has) s p q g (loss_ops hs base) u
  ends_there g hs is u ok =
      loss_ends s p q gs base codes Stands (HasFirst Has) lost Fits next at no_poll under counted place ends g hs is u ok

module _ (taker : Taker Waker) (final : Op) (below : List Op) (f : ℕ) (codes : List (Code Output Waker)) (it : GoesOnBy taker final)
    (nested : Nested below codes) where
  abbrev pub base : List Op
  base = op.User (user_op.Drop f) ∷ op.Table (table_op.LeaveTable f) ∷ op.Handle (handle_op.LetGo f) ∷ final ∷ below

  place_so : (hs : List ℕ) (e : Done) (z : Plain Output Waker) → e.next ≡ loss_ops hs base
      → z.inside ≡ loss_codes hs (Drop f Closed taker ∷ codes) → StandsForgotten e.world f hs z → StandsAlike e z
  place_so [] e z next inside stands =
      forgetting taker final below f (record z { inside = codes }) it nested
      (record {
        left = next;
        inside = inside;
        forgotten =
            forgotten_as z.inside stands stands.follows.follows;
      })
  place_so (h ∷ hs) e z next inside stands =
      forgotten taker final below f h hs codes it nested (record { left = next; inside = inside; stands = stands })

  module _ (s : Machine) (p : ℕ) (q : Plain Output Waker) (counted : Counted (reverse (stack s p)) q.runs) where
    forgotten_poll : (gs : List ℕ) → reverse (stack s p) ≡ loss_ops gs base → mine (top (stack s p)) ≡ None
    forgotten_poll [] next =
        no_poll_at s p (op.User (user_op.Drop f))
        (op.Table (table_op.LeaveTable f) ∷ op.Handle (handle_op.LetGo f) ∷ final ∷ below) refl next
    forgotten_poll (g ∷ gs) next = no_poll_at s p (op.User (user_op.DropOutput g)) (left_of g ++ loss_ops gs base) refl next

    pub begins_forgotten : (gs : List ℕ) → StopsForgotten taker final below f gs codes (standing s p) q → Reached s
        → p < length s.parties → (c : Call) → is_on_executor c ≡ false
        → begin_refusal s.world s.parties (top (stack s p)) c ≡ None
        → BeginsSo (HasFirst Has) s p q c
    begins_forgotten gs stops reached there c off may =
        begins_there s p q f gs base (Drop f Closed taker ∷ codes) stops.left stops.inside stops.stands
        (forgotten_poll gs stops.left) refl counted place_so reached there c off may

    pub ends_forgotten : (g : ℕ) (gs : List ℕ) → StopsForgotten taker final below f (g ∷ gs) codes (standing s p) q → (u : UserEnd)
        → accepts (op.User (user_op.DropOutput g)) u ≡ true
        → EndsSo (HasFirst Has) s p q g (loss_ops gs base) u
    ends_forgotten g gs stops u ok =
        ends_there s p q f (g ∷ gs) base (Drop f Closed taker ∷ codes) stops.left stops.inside
        stops.stands (forgotten_poll (g ∷ gs) stops.left) refl counted place_so g gs refl u ok
