-- In the drop of a future that nobody could wake, calls of wakers and handles of other tasks leave both alike but for who awaits it.
use Rattle.std.proofs.Common.{◌≡◌, ℕ, ◌<◌, ◌≤◌, ◌==◌, ◌++◌, ◌&&◌, not, Bool, true, false, List, [], ◌∷◌, length, Option, Some, None}
use Rattle.std.proofs.Common.{is_some, slice_get, slice_set, refl, sym, ap, subst, ◌∙◌}
use Rattle.task_moves.specs.declared.moves.owed.Move.TheVariants as move
use Rattle.task_moves.specs.declared.moves.state.State.{State}
use Rattle.task_moves.specs.AbstractTask.{AbstractTask}
use Rattle.executor_model.specs.declared.call.By.{By}
use Rattle.executor_model.specs.declared.call.By.TheVariants as by_whom
use Rattle.executor_model.specs.declared.call.Call.{Call}
use Rattle.executor_model.specs.declared.call.Call.TheVariants as call
use Rattle.executor_model.specs.declared.call.Reply.TheVariants as reply
use Rattle.executor_model.specs.declared.event.Event.TheVariants as event
use Rattle.executor_model.specs.declared.op.Hold.TheVariants as hold
use Rattle.executor_model.specs.declared.op.Op.{Op}
use Rattle.executor_model.specs.declared.op.Op.TheVariants as op
use Rattle.executor_model.specs.declared.op.UserOp.TheVariants as user_op
use Rattle.executor_model.specs.declared.op.Waker.{Waker}
use Rattle.executor_model.specs.declared.op.WakerOp.TheVariants as waker_op
use Rattle.executor_model.specs.declared.step.Hint.{Hint}
use Rattle.executor_model.specs.Steps.{is_on_executor, kept, used_up, waker_of, with_future}
use Rattle.executor_model.specs.World.{World, Done, awaiter_of, done, log}
use Rattle.executor_model.specs.World as world
use Rattle.plain_scheduler.specs.State.{Choice, Future, Lose, Plain, Refusal}
use Rattle.plain_scheduler.specs.Lists.{on, or}
use Rattle.plain_scheduler.specs.Moves.{put, task}
use Rattle.plain_scheduler.specs.Calls as plain
use Rattle.plain_scheduler.specs.Calls.{does, Ends}
use Rattle.machine_roads.specs.View.{Output, waker_in, wakes}
use Rattle.machine_roads.specs.Alone.{alone, is_resting, HasAll}
use Rattle.machine_roads.specs.Alike.{begins, upon}
use Rattle.machine_roads.specs.Closing.{called, loses}
use Rattle.machine_roads.specs.Course.{IsCall, cancel, copy, detach, drop_handle, poll_handle, release, use_waker, wake}
use Rattle.machine_roads.specs.Forgotten.{unawaited, without_awaiter}
use Rattle.machine_roads.specs.InForgotten.{CallsInForgotten, InAnyForgotten, IsCallInForgotten, LosesInForgotten, LossEndsInForgotten}
use Rattle.machine_roads.specs.InForgotten.{StandsForgotten, is_of}
use Rattle.machine_roads.specs.InLoss.{AreLosing, IsCallInLoss, without_handles}
use Rattle.machine_roads.specs.Losing.{left_of}
use Rattle.machine_roads.proofs.Along.{AlongSo, along_so, goes_append, goes_by, resting_goes}
use Rattle.machine_roads.proofs.InLoss.{calls_in_loss, closed_through, loses_in_loss, loss_ends_in_loss, many_through}
use Rattle.machine_roads.proofs.Lists.{get_below, length_set}
use Rattle.machine_roads.proofs.Puts.{put_by, put_lying, with_task}
use Rattle.machine_roads.proofs.Hiding.{is_from_outside, task_own}
use Rattle.machine_roads.proofs.Spent.{Does, Kept, act_does, all_same, has_less, hide, is_aside}
use Rattle.machine_roads.proofs.Unawaited.{Bare, task_other, there_over}
use Rattle.machine_roads.proofs.UnawaitedCalls.{begins_bare, does_keeps, ends_keep, stays_bare}

futures_put : (f : ℕ) (new : AbstractTask Output Waker) (q : Plain Output Waker)
    → length (put f new q).futures ≡ length q.futures
futures_put f new q = by (slice_get q.futures f)
  where
    by : (o : Option (Future Output Waker))
        → length (on o (λ x p. record p { futures = slice_set p.futures f (with_task new x) }) q).futures ≡ length q.futures
    by None = refl
    by (Some x) = length_set q.futures f (with_task new x)

module _ (f : ℕ) (awaiter : Option Waker) where
  abbrev Here : World → Type 0
  Here w = Kept f awaiter w

  abbrev fits : Op → Bool
  fits o = is_aside f awaiter o

  abbrev goes_on : List Op → Bool
  goes_on os = goes_by (without_awaiter f) fits Here os

  along : (p : ℕ) (hints : List Hint) (w : World) (os : List Op) → Here w → goes_on os ≡ true → HasAll p hints (done w os)
      → AlongSo (without_awaiter f) fits Here p hints (done (without_awaiter f w) os) (done w os)
  along p hints w os owes go has =
      along_so (without_awaiter f) fits Here (act_does f awaiter) (has_less f awaiter) p hints w os owes go has

  future_does : (v : World) (o : Option ℕ) (here there : ℕ → Done) → Here v
      → ((g : ℕ) → o ≡ Some g → Does f awaiter (there g) (here g))
      → Does f awaiter (with_future (without_awaiter f v) o there) (with_future v o here)
  future_does v None here there owes so = record { same = refl; kept = owes; fit = refl }
  future_does v (Some g) here there owes so = so g refl

  same_apart : (o : Option ℕ) (g h : ℕ) → o ≡ Some g → o ≡ Some h → (f == g) ≡ false → (f == h) ≡ false
  same_apart o g h is at apart = ap (λ o. or o (λ k. f == k) false) (sym at ∙ is) ∙ apart

  -- a call begins
  begins_does : (p : ℕ) (c : Call) (x : plain.Call Output Waker) (w : World) → is_on_executor c ≡ false → IsCall w c x → is_of f x ≡ false
      → Here w → Does f awaiter (begins p None c (without_awaiter f w)) (begins p None c w)
  begins_does p c x w off (use_waker k g is) apart owes =
      let v = log w (event.CallBegun p (call.Wake k)) in
      let os : ℕ → List Op = λ g. op.Move move.Wake g ∷ op.End reply.Done hold.Nothing ∷ [] in
      future_does v (kept w k) (λ g. done (used_up v k) (os g)) (λ g. done (used_up (without_awaiter f v) k) (os g)) owes
      (λ g at. record { same = refl; kept = owes; fit = refl })
  begins_does p c x w off (wake k g is) apart owes =
      let v = log w (event.CallBegun p (call.WakeByRef k)) in
      let os : ℕ → List Op = λ g. op.Move move.WakeByReference g ∷ op.End reply.Done (hold.Waker k) ∷ [] in
      future_does v (kept w k) (λ g. done v (os g)) (λ g. done (without_awaiter f v) (os g)) owes
      (λ g at. record { same = refl; kept = owes; fit = refl })
  begins_does p c x w off (copy k g is) apart owes =
      let v = log w (event.CallBegun p (call.Copy k)) in
      let os : ℕ → List Op = λ g. op.Waker (waker_op.CopyWaker g (hold.Waker k)) ∷ [] in
      future_does v (kept w k) (λ g. done v (os g)) (λ g. done (without_awaiter f v) (os g)) owes
      (λ h at. record { same = refl; kept = owes; fit = ap (λ b. not b && true) (same_apart (kept w k) g h is at apart) })
  begins_does p c x w off (release k g is) apart owes =
      let v = log w (event.CallBegun p (call.DropWaker k)) in
      let os : ℕ → List Op = λ g. op.Move move.Release g ∷ op.End reply.Done hold.Nothing ∷ [] in
      future_does v (kept w k) (λ g. done (used_up v k) (os g)) (λ g. done (used_up (without_awaiter f v) k) (os g)) owes
      (λ g at. record { same = refl; kept = owes; fit = refl })
  begins_does p c x w off (poll_handle g b) apart owes =
      record { same = refl; kept = owes; fit = ap (λ e. (not e && is_from_outside (waker_of None b)) && true) apart ∙ outside b }
    where
      outside : (b : By) → (is_from_outside (waker_of None b) && true) ≡ true
      outside (by_whom.Outside n) = refl
      outside by_whom.Mine = refl
  begins_does p c x w off (cancel g) apart owes = record { same = refl; kept = owes; fit = refl }
  begins_does p c x w off (detach g) apart owes = record { same = refl; kept = owes; fit = refl }
  begins_does p c x w off (drop_handle g) apart owes = record { same = refl; kept = owes; fit = refl }
  begins_does p c x w off is apart owes = absurd cc

  -- the same call there
  call_there : (w : World) (c : Call) (x : plain.Call Output Waker) → is_on_executor c ≡ false → IsCall w c x
      → IsCall (without_awaiter f w) c x
  call_there w c x off (use_waker k g is) = use_waker k g is
  call_there w c x off (wake k g is) = wake k g is
  call_there w c x off (copy k g is) = copy k g is
  call_there w c x off (release k g is) = release k g is
  call_there w c x off (poll_handle g b) = poll_handle g b
  call_there w c x off (cancel g) = cancel g
  call_there w c x off (detach g) = detach g
  call_there w c x off (drop_handle g) = drop_handle g
  call_there w c x off is = absurd cc

  -- and the same output goes
  loses_there : (r q : Plain Output Waker) → Bare f awaiter r q → (w : World) (c : Call) (x : plain.Call Output Waker)
      → is_on_executor c ≡ false → IsCall w c x → is_of f x ≡ false → loses x r ≡ loses x q
  loses_there r q b w c x off (detach g) apart =
      ap (λ (t : AbstractTask Output Waker). is_some t.output) (task_other f awaiter r q b g apart)
  loses_there r q b w c x off (drop_handle g) apart =
      ap (λ (t : AbstractTask Output Waker). is_some t.output) (task_other f awaiter r q b g apart)
  loses_there r q b w c x off is apart = refl

  -- both as they stand
  record Begun (w : World) (q : Plain Output Waker) : Type 0 where
    owes : Here w
    bare : Bare f awaiter (unawaited f q) q

  begun : (w : World) (gs : List ℕ) (q : Plain Output Waker) → waker_in (awaiter_of w f) ≡ awaiter → StandsForgotten w f gs q → Begun w q
  begun w gs q awaited stands = record {
    owes = record {
      known = stands.known;
      entered = stands.entered;
      closed = shut;
      spent = stands.spent;
      unheld = stands.unheld;
      awaited = awaited;
    };
    bare = b;
  }
    where
      v : World
      v = without_awaiter f w

      many : length (without_handles gs v).tasks ≡ length w.tasks
      many = many_through gs v ∙ length_set w.tasks f (hide (world.task w f))

      place : (x : Future Output Waker) × (slice_get q.futures f ≡ Some x)
      place =
          get_below q.futures f
          (subst (λ n. f < n) (sym many ∙ (stands.follows.follows.many ∙ futures_put f (record (task f q) { awaiter = None }) q))
          stands.known)

      b : Bare f awaiter (unawaited f q) q
      b = begins_bare f awaiter q place.0 place.1 stands.finished stands.closed (stands.awaited ∙ awaited)

      inside : f < length (without_handles gs v).tasks
      inside = subst (λ n. f < n) (sym many) stands.known

      shut : (world.task w f).closed ≡ true
      shut =
          ap (λ (s : State). s.closed) (sym (task_own f all_same w stands.known))
          ∙ (sym (closed_through gs f v stands.follows.shut)
          ∙ (sym (ap (λ (t : AbstractTask Output Waker). t.closed) (stands.follows.follows.tasks f inside))
          ∙ (there_over f awaiter (unawaited f q) q b).1))

  ending : (w : World) (gs : List ℕ) (r z : Plain Output Waker) → Here w → Bare f awaiter r z → AreLosing (without_awaiter f w) gs r
      → StandsForgotten w f gs z
  ending w gs r z owes b losing =
      let s = stays_bare f awaiter r z b in
      record {
        known = owes.known;
        entered = owes.entered;
        spent = owes.spent;
        unheld = owes.unheld;
        finished = s.phase;
        closed = s.closed;
        awaited = s.awaited ∙ sym owes.awaited;
        follows = subst (λ r. AreLosing (without_awaiter f w) gs r) s.is losing;
      }

  resting_on : (os : List Op) → is_resting os ≡ true → goes_on os ≡ true
  resting_on os under = resting_goes (without_awaiter f) fits Here os under

  module _ (p : ℕ) (gs : List ℕ) (below : List Op) (w : World) (q : Plain Output Waker) (d : Choice) (hints : List Hint)
      (under : is_resting below ≡ true) (awaited : waker_in (awaiter_of w f) ≡ awaiter) where
    abbrev there : Plain Output Waker
    there = unawaited f q

    abbrev lies_there : there.lying ≡ q.lying
    lies_there = put_lying f (record (task f q) { awaiter = None }) q

    abbrev stays_inside : there.inside ≡ q.inside
    stays_inside = put_by (λ p. p.inside) f (record (task f q) { awaiter = None }) q (λ fs. refl)

    module _ (stands : StandsForgotten w f gs q) (c : Call) (x : plain.Call Output Waker) (is : IsCallInForgotten f gs w c x)
        (has : HasAll p hints (upon below (begins p None c w)))
        (rests : is_resting (called p hints below c w).next ≡ true) where
      abbrev e : Done
      e = called p hints below c w

      abbrev v : World
      v = without_awaiter f w

      at_first : Begun w q
      at_first = begun w gs q awaited stands

      start : Does f awaiter (begins p None c v) (begins p None c w)
      start = begins_does p c x w is.is.off is.is.is is.apart at_first.owes

      run : AlongSo (without_awaiter f) fits Here p hints (done (without_awaiter f (begins p None c w).world)
          ((begins p None c w).next ++ below))
          (upon below (begins p None c w))
      run =
          along p hints (begins p None c w).world ((begins p None c w).next ++ below) start.kept
          (goes_append (without_awaiter f) fits Here (begins p None c w).next below start.fit (resting_on below under)) has

      has_there : HasAll p hints (upon below (begins p None c v))
      has_there = subst (λ d. HasAll p hints (upon below d)) (sym start.same) run.has

      same : called p hints below c v ≡ done (without_awaiter f e.world) e.next
      same = ap (λ d. alone p hints (upon below d)) start.same ∙ run.same

      rests_there : is_resting (called p hints below c v).next ≡ true
      rests_there = ap (λ (e : Done). is_resting e.next) same ∙ rests

      it : IsCallInLoss gs v c x
      it = record { off = is.is.off; spared = is.is.spared; is = call_there w c x is.is.off is.is.is }

      loses_so : loses x there ≡ loses x q
      loses_so = loses_there there q at_first.bare w c x is.is.off is.is.is is.apart

      keeps : (d : Choice) → Bare f awaiter (does wakes d x there) (does wakes d x q)
      keeps d = does_keeps f awaiter d w c x is.is.off is.is.is is.apart there q at_first.bare

      ends_so : loses x q ≡ false → length q.lying ≤ d.tells
          → (r : Refusal) × (e.next ≡ below) × StandsForgotten e.world f gs (does wakes (record d { refusal = r }) x q)
      ends_so stays many =
          let so = calls_in_loss p gs below v there d hints c x under stands.follows it (loses_so ∙ stays)
          (subst (λ ls. length ls ≤ d.tells) (sym lies_there) many) has_there rests_there in
          let d2 : Choice = record d { refusal = so.0 } in (
            so.0,
            sym (ap (λ (e : Done). e.next) same) ∙ so.1,
            ending e.world gs (does wakes d2 x there) (does wakes d2 x q) run.kept (keeps d2)
                (subst (λ (e : Done). AreLosing e.world gs (does wakes d2 x there)) same so.2),
          )

      comes_so : loses x q ≡ true
          → (g : ℕ) × (e.next ≡ op.User (user_op.DropOutput g) ∷ (left_of g ++ below))
          × ((does wakes d x q).inside ≡ Lose None None ∷ q.inside) × StandsForgotten e.world f (g ∷ gs) (does wakes d x q)
      comes_so some =
          let so = loses_in_loss p gs below v there d hints c x under stands.follows it (loses_so ∙ some) has_there rests_there in (
            so.0,
            sym (ap (λ (e : Done). e.next) same) ∙ so.1,
            sym (ap (λ (q : Plain Output Waker). q.inside) (keeps d).is) ∙ (so.2 ∙ ap (λ codes. Lose None None ∷ codes) stays_inside),
            ending e.world (so.0 ∷ gs) (does wakes d x there) (does wakes d x q) run.kept (keeps d)
                (subst (λ (e : Done). AreLosing e.world (so.0 ∷ gs) (does wakes d x there)) same so.3),
          )

    -- the innermost drop ends
    end_so : (g : ℕ) → StandsForgotten w f (g ∷ gs) q → HasAll p hints (done w (left_of g ++ below))
        → is_resting (alone p hints (done w (left_of g ++ below))).next ≡ true
        → ((alone p hints (done w (left_of g ++ below))).next ≡ below)
        × StandsForgotten (alone p hints (done w (left_of g ++ below))).world f gs
        (does wakes d Ends (record q { inside = Lose None None ∷ q.inside }))
    end_so g stands has rests =
        let os = left_of g ++ below in
        let e : Done = alone p hints (done w os) in
        let first = begun w (g ∷ gs) q awaited stands in
        let run = along p hints w os first.owes
        (goes_append (without_awaiter f) fits Here (left_of g) below refl (resting_on below under)) has in
        let y : Plain Output Waker = does wakes d Ends (record there { inside = Lose None None ∷ there.inside }) in
        let z : Plain Output Waker = does wakes d Ends (record q { inside = Lose None None ∷ q.inside }) in
        let so = loss_ends_in_loss p gs below (without_awaiter f w) there d hints g under stands.follows run.has
        (ap (λ (e : Done). is_resting e.next) run.same ∙ rests) in (
          sym (ap (λ (e : Done). e.next) run.same) ∙ so.0,
          ending e.world gs y z run.kept (ends_keep f awaiter d there q first.bare)
              (subst (λ (e : Done). AreLosing e.world gs y) run.same so.1),
        )

pub calls_forgotten : InAnyForgotten CallsInForgotten
calls_forgotten p f gs below w q d hints c x under stands is stays many has rests =
    ends_so f (waker_in (awaiter_of w f)) p gs below w q d hints under refl stands c x is has rests stays many

pub loses_forgotten : InAnyForgotten LosesInForgotten
loses_forgotten p f gs below w q d hints c x under stands is some has rests =
    comes_so f (waker_in (awaiter_of w f)) p gs below w q d hints under refl stands c x is has rests some

pub loss_ends_forgotten : InAnyForgotten LossEndsInForgotten
loss_ends_forgotten p f gs below w q d hints g under stands has rests =
    end_so f (waker_in (awaiter_of w f)) p gs below w q d hints under refl g stands has rests
