-- In the drop of an output that nobody can take calls of wakers and of handles leave both alike but for its task's run and who awaits it.
use Rattle.std.proofs.Common.{◌≡◌, ℕ, ◌≤◌, ◌++◌, ◌&&◌, not, Bool, true, false, List, [], ◌∷◌, length, Option, Some, None}
use Rattle.std.proofs.Common.{refl, sym, ap, subst, ◌∙◌}
use Rattle.task_moves.specs.declared.moves.owed.Move.TheVariants as move
use Rattle.executor_model.specs.declared.call.Call.{Call}
use Rattle.executor_model.specs.declared.call.Call.TheVariants as call
use Rattle.executor_model.specs.declared.call.Reply.TheVariants as reply
use Rattle.executor_model.specs.declared.event.Event.TheVariants as event
use Rattle.executor_model.specs.declared.op.Hold.TheVariants as hold
use Rattle.executor_model.specs.declared.op.Op.{Op}
use Rattle.executor_model.specs.declared.op.Op.TheVariants as op
use Rattle.executor_model.specs.declared.op.UserOp.TheVariants as user_op
use Rattle.executor_model.specs.declared.op.Waker.{Waker}
use Rattle.executor_model.specs.declared.op.WakerOp.TheVariants as waker_op
use Rattle.executor_model.specs.declared.step.Hint.{Hint}
use Rattle.executor_model.specs.Steps.{is_on_executor, kept, used_up, with_future}
use Rattle.executor_model.specs.World.{World, Done, done, log}
use Rattle.plain_scheduler.specs.State.{Choice, Lose, Plain, Refusal}
use Rattle.plain_scheduler.specs.Calls as plain
use Rattle.plain_scheduler.specs.Calls.{does, Ends}
use Rattle.machine_roads.specs.View.{Output, wakes}
use Rattle.machine_roads.specs.Alone.{alone, is_resting, HasAll, HasAllOf}
use Rattle.machine_roads.specs.Alike.{begins, upon}
use Rattle.machine_roads.specs.Closing.{called, loses}
use Rattle.machine_roads.specs.Course.{IsCall, cancel, copy, detach, drop_handle, poll_handle, release, use_waker, wake}
use Rattle.machine_roads.specs.Dropped.{without_run}
use Rattle.machine_roads.specs.InLoss.{AreLosing, IsCallInLoss}
use Rattle.machine_roads.specs.Losing.{left_of}
use Rattle.machine_roads.specs.Untaken.{CallsBeside, HasBeside, InAnyUntaken, IsCallBeside, LosesBeside, LossEndsBeside, StandsUntaken}
use Rattle.machine_roads.specs.Untaken.{polls}
use Rattle.machine_roads.proofs.Along.{goes_append, resting_goes}
use Rattle.machine_roads.proofs.AlongBeside.{AlongBeside, along_beside, goes}
use Rattle.machine_roads.proofs.InLoss.{calls_in_loss, loses_in_loss, loss_ends_in_loss}
use Rattle.machine_roads.proofs.Owing.{Does, Kept, act_does, is_aside}

module _ (f : ℕ) (awaiter : Option Waker) where
  abbrev Here : World → Type 0
  Here w = Kept f awaiter w

  abbrev fits : Op → Bool
  fits o = is_aside f awaiter o

  abbrev goes_on : List Op → Bool
  goes_on os = goes (without_run f) fits Here os

  along : (p : ℕ) (hints : List Hint) (w : World) (os : List Op) → Here w → goes_on os ≡ true
      → HasAllOf (HasBeside f) p hints (done w os) → AlongBeside (without_run f) fits Here p hints (done (without_run f w) os) (done w os)
  along p hints w os owes go has = along_beside (without_run f) fits Here (act_does f awaiter) p hints w os owes go has

  future_does : (v : World) (o : Option ℕ) (here there : ℕ → Done) → Here v → ((g : ℕ) → Does f awaiter (there g) (here g))
      → Does f awaiter (with_future (without_run f v) o there) (with_future v o here)
  future_does v None here there owes so = record { same = refl; kept = owes; fit = refl }
  future_does v (Some g) here there owes so = so g

  -- a call begins
  pub begins_does : (p : ℕ) (c : Call) (w : World) → is_on_executor c ≡ false → polls f c ≡ false → Here w
      → Does f awaiter (begins p None c (without_run f w)) (begins p None c w)
  begins_does p (call.Wake k) w off apart owes =
      let v = log w (event.CallBegun p (call.Wake k)) in
      let os : ℕ → List Op = λ g. op.Move move.Wake g ∷ op.End reply.Done hold.Nothing ∷ [] in
      future_does v (kept w k) (λ g. done (used_up v k) (os g)) (λ g. done (used_up (without_run f v) k) (os g)) owes
      (λ g. record { same = refl; kept = owes; fit = refl })
  begins_does p (call.WakeByRef k) w off apart owes =
      let v = log w (event.CallBegun p (call.WakeByRef k)) in
      let os : ℕ → List Op = λ g. op.Move move.WakeByReference g ∷ op.End reply.Done (hold.Waker k) ∷ [] in
      future_does v (kept w k) (λ g. done v (os g)) (λ g. done (without_run f v) (os g)) owes
      (λ g. record { same = refl; kept = owes; fit = refl })
  begins_does p (call.Copy k) w off apart owes =
      let v = log w (event.CallBegun p (call.Copy k)) in
      let os : ℕ → List Op = λ g. op.Waker (waker_op.CopyWaker g (hold.Waker k)) ∷ [] in
      future_does v (kept w k) (λ g. done v (os g)) (λ g. done (without_run f v) (os g)) owes
      (λ g. record { same = refl; kept = owes; fit = refl })
  begins_does p (call.DropWaker k) w off apart owes =
      let v = log w (event.CallBegun p (call.DropWaker k)) in
      let os : ℕ → List Op = λ g. op.Move move.Release g ∷ op.End reply.Done hold.Nothing ∷ [] in
      future_does v (kept w k) (λ g. done (used_up v k) (os g)) (λ g. done (used_up (without_run f v) k) (os g)) owes
      (λ g. record { same = refl; kept = owes; fit = refl })
  begins_does p call.Keep w off apart owes = record { same = refl; kept = owes; fit = refl }
  begins_does p call.WakeSelf w off apart owes = record { same = refl; kept = owes; fit = refl }
  begins_does p (call.PollHandle g b) w off apart owes =
      record { same = refl; kept = owes; fit = ap (λ b. (not b && true) && true) apart }
  begins_does p (call.Cancel g) w off apart owes = record { same = refl; kept = owes; fit = refl }
  begins_does p (call.Detach g) w off apart owes = record { same = refl; kept = owes; fit = refl }
  begins_does p (call.DropHandle g) w off apart owes = record { same = refl; kept = owes; fit = refl }
  begins_does p c w off apart owes = absurd cc

  -- the same call there
  call_there : (w : World) (c : Call) (x : plain.Call Output Waker) → is_on_executor c ≡ false → IsCall w c x → IsCall (without_run f w) c x
  call_there w c x off (use_waker k g is) = use_waker k g is
  call_there w c x off (wake k g is) = wake k g is
  call_there w c x off (copy k g is) = copy k g is
  call_there w c x off (release k g is) = release k g is
  call_there w c x off (poll_handle g b) = poll_handle g b
  call_there w c x off (cancel g) = cancel g
  call_there w c x off (detach g) = detach g
  call_there w c x off (drop_handle g) = drop_handle g
  call_there w c x off is = absurd cc

  pub owing : (w : World) (gs : List ℕ) (q : Plain Output Waker) → StandsUntaken w f awaiter gs q → Here w
  owing w gs q stands = record {
    known = stands.known;
    over = stands.over;
    still = stands.still;
    counted = stands.counted;
    stored = stands.stored;
    awaited = stands.awaited;
  }

  ending : (w : World) (gs : List ℕ) (q : Plain Output Waker) → Here w → AreLosing (without_run f w) gs q → StandsUntaken w f awaiter gs q
  ending w gs q owes losing = record {
    known = owes.known;
    over = owes.over;
    still = owes.still;
    counted = owes.counted;
    stored = owes.stored;
    awaited = owes.awaited;
    follows = losing;
  }

  pub resting_on : (os : List Op) → is_resting os ≡ true → goes_on os ≡ true
  resting_on os under = resting_goes (without_run f) fits Here os under

  module _ (p : ℕ) (gs : List ℕ) (below : List Op) (w : World) (q : Plain Output Waker) (d : Choice) (hints : List Hint)
      (under : is_resting below ≡ true) where
    module _ (stands : StandsUntaken w f awaiter gs q) (c : Call) (x : plain.Call Output Waker) (is : IsCallBeside f gs w c x)
        (has : HasAllOf (HasBeside f) p hints (upon below (begins p None c w)))
        (rests : is_resting (called p hints below c w).next ≡ true) where
      abbrev e : Done
      e = called p hints below c w

      abbrev v : World
      v = without_run f w

      begun : Does f awaiter (begins p None c v) (begins p None c w)
      begun = begins_does p c w is.is.off is.unpolled (owing w gs q stands)

      run : AlongBeside (without_run f) fits Here p hints (done (without_run f (begins p None c w).world)
          ((begins p None c w).next ++ below))
          (upon below (begins p None c w))
      run =
          along p hints (begins p None c w).world ((begins p None c w).next ++ below) begun.kept
          (goes_append (without_run f) fits Here (begins p None c w).next below begun.fit (resting_on below under)) has

      has_there : HasAll p run.hinted (upon below (begins p None c v))
      has_there = subst (λ d. HasAll p run.hinted (upon below d)) (sym begun.same) run.has

      same : called p run.hinted below c v ≡ done (without_run f e.world) e.next
      same = ap (λ d. alone p run.hinted (upon below d)) begun.same ∙ run.same

      rests_there : is_resting (called p run.hinted below c v).next ≡ true
      rests_there = ap (λ (e : Done). is_resting e.next) same ∙ rests

      it : IsCallInLoss gs v c x
      it = record { off = is.is.off; spared = is.is.spared; is = call_there w c x is.is.off is.is.is }

      ends_so : loses x q ≡ false → length q.lying ≤ d.tells
          → (r : Refusal) × (e.next ≡ below) × StandsUntaken e.world f awaiter gs (does wakes (record d { refusal = r }) x q)
      ends_so stays many =
          let so = calls_in_loss p gs below v q d run.hinted c x under stands.follows it stays many has_there rests_there in
          let z : Plain Output Waker = does wakes (record d { refusal = so.0 }) x q in (
            so.0,
            sym (ap (λ (e : Done). e.next) same) ∙ so.1,
            ending e.world gs z run.kept (subst (λ (e : Done). AreLosing e.world gs z) same so.2),
          )

      loses_so : loses x q ≡ true
          → (g : ℕ) × (e.next ≡ op.User (user_op.DropOutput g) ∷ (left_of g ++ below))
          × ((does wakes d x q).inside ≡ Lose None None ∷ q.inside) × StandsUntaken e.world f awaiter (g ∷ gs) (does wakes d x q)
      loses_so some =
          let so = loses_in_loss p gs below v q d run.hinted c x under stands.follows it some has_there rests_there in
          let z : Plain Output Waker = does wakes d x q in (
            so.0,
            sym (ap (λ (e : Done). e.next) same) ∙ so.1,
            so.2,
            ending e.world (so.0 ∷ gs) z run.kept (subst (λ (e : Done). AreLosing e.world (so.0 ∷ gs) z) same so.3),
          )

    -- the innermost drop ends
    end_so : (g : ℕ) → StandsUntaken w f awaiter (g ∷ gs) q → HasAllOf (HasBeside f) p hints (done w (left_of g ++ below))
        → is_resting (alone p hints (done w (left_of g ++ below))).next ≡ true
        → ((alone p hints (done w (left_of g ++ below))).next ≡ below)
        × StandsUntaken (alone p hints (done w (left_of g ++ below))).world f awaiter gs
        (does wakes d Ends (record q { inside = Lose None None ∷ q.inside }))
    end_so g stands has rests =
        let os = left_of g ++ below in
        let e : Done = alone p hints (done w os) in
        let run = along p hints w os (owing w (g ∷ gs) q stands)
        (goes_append (without_run f) fits Here (left_of g) below refl (resting_on below under)) has in
        let z : Plain Output Waker = does wakes d Ends (record q { inside = Lose None None ∷ q.inside }) in
        let so = loss_ends_in_loss p gs below (without_run f w) q d run.hinted g under stands.follows run.has
        (ap (λ (e : Done). is_resting e.next) run.same ∙ rests) in (
          sym (ap (λ (e : Done). e.next) run.same) ∙ so.0,
          ending e.world gs z run.kept (subst (λ (e : Done). AreLosing e.world gs z) run.same so.1),
        )

pub calls_beside : InAnyUntaken CallsBeside
calls_beside p f awaiter gs below w q d hints c x under stands is stays many has rests =
    ends_so f awaiter p gs below w q d hints under stands c x is has rests stays many

pub loses_beside : InAnyUntaken LosesBeside
loses_beside p f awaiter gs below w q d hints c x under stands is some has rests =
    loses_so f awaiter p gs below w q d hints under stands c x is has rests some

pub loss_ends_beside : InAnyUntaken LossEndsBeside
loss_ends_beside p f awaiter gs below w q d hints g under stands has rests =
    end_so f awaiter p gs below w q d hints under g stands has rests
