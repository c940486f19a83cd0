-- For outside_wakers_are_called, the_closing_drop_keeps_the_order and the_closing_drop_wakes_in_order.
-- What is added to the trace passes no test that only the call of a waker, the acceptance or drop of a future, or the
-- beginning of the executor's drop passes, where the thing that is done is none of these.
use Rattle.std.proofs.Common.{◌≡◌, ℕ, List, [], ◌∷◌, ◌++◌, Bool, true, false, refl, sym, ap, ◌∙◌, append-nil}
use Rattle.std.{proofs.lemmas.List.append_assoc, proofs.lemmas.List.append_cancel_left, specs.Prelude.Option}
use Rattle.executor_model.proofs.Types.{Call, Event, ClosingOp, Op, Polled, RunOp, SleeperOp, TableOp, UserOp, Waker, WakerOp}
use Rattle.executor_model.specs.{Acts.leak_next_by, Acts.wake_next_by, World.World, World.log, ActsOfSleepers.polled_as}
use Rattle.executor_model.specs.{Steps.begun, Steps.react, Doing.act, Trace.Trace, Trace.has}
use Rattle.executor_model.proofs.Steps.Parts.Tells.{accepted, future_dropped, next_dropped, awaiter_called, sleeper_called}
use Rattle.executor_model.proofs.Steps.ByParts.{by-act, by-wake_next, by-leak_next}
use Rattle.executor_model.proofs.Steps.Parts.{Parts, PartsOf, Stay, Tells, Begins, Answers, by-begun, by-react}
use Rattle.executor_model.proofs.{Types.Hint, Types.UserEnd, Steps.Tests.or-false, Steps.TraceMore.has-append}
use Rattle.executor_model.proofs.{Steps.Parts.Answers.answered, Steps.Parts.Begins.drop_begun, Steps.Parts.Tells.own_called}

-- it calls no waker that a poll was given, takes no future in, and is the beginning of no drop
abbrev pub is_hushed : Event → Bool
is_hushed (Event.WakerCalled p o k a) = false
is_hushed (Event.Accepted p f) = false
is_hushed (Event.Dropped p f) = false
is_hushed (Event.DropBegun p) = false
is_hushed _ = true

-- what is added passes no such test as passes no hushed event
module _ (t : Event → Bool) (u : (e : Event) → is_hushed e ≡ true → t e ≡ false) where
  pub record Hushed (w v : World) : Type 0 where
    pub more : Trace
    pub is : v.trace ≡ w.trace ++ more
    pub none : has t more ≡ false

  hushed : (w v : World) → v.trace ≡ w.trace → Hushed w v
  hushed w v e = record { more = []; is = e ∙ sym (append-nil w.trace); none = refl }

  one : (w v : World) (e : Event) → v.trace ≡ w.trace ++ e ∷ [] → t e ≡ false → Hushed w v
  one w v e q n = record { more = e ∷ []; is = q; none = or-false (t e) n }

  both : (w v x : World) → Hushed w v → Hushed v x → Hushed w x
  both w v x a b = record {
    more = a.more ++ b.more;
    is = b.is ∙ (ap (λ (xs : Trace). xs ++ b.more) a.is ∙ append_assoc w.trace a.more b.more);
    none = has-append t a.more b.more a.none b.none;
  }

  pub hushed-is : (w v : World) (more : Trace) → v.trace ≡ w.trace ++ more → Hushed w v → has t more ≡ false
  hushed-is w v more e h = ap (has t) (append_cancel_left w.trace more h.more (sym e ∙ h.is)) ∙ h.none

  -- so it is by each part
  hushes : {T : Event → Type 0} (x a b c : Bool) → ((e : Event) → T e → t e ≡ false) → Parts Hushed T x a b c
  hushes x a b c k = record {
    aside = λ w v e. hushed w v (ap (λ (x : Stay). x.trace) (sym e));
    both = both;
    moved = λ w f s. hushed w _ refl;
    stored = λ w f x. hushed w _ refl;
    placed = λ w f x y. hushed w _ refl;
    kept = λ w ws y. hushed w _ refl;
    turned = λ w n y. hushed w _ refl;
    listed = λ w x ts ls ks y. hushed w _ refl;
    entered = λ w s m y. hushed w _ refl;
    tells = λ w e z. one w _ e refl (k e z);
  }

  -- the waker that it calls, the future that it takes in, and the one whose drop it begins don't pass the test
  abbrev pub Hushes : ℕ → Op → Type 0
  Hushes p (Op.Waker (WakerOp.CallAwaiter f a k)) = t (Event.WakerCalled p (Polled.Handle f) k a) ≡ false
  Hushes p (Op.Sleeper (SleeperOp.CallSleeper s)) = t (Event.WakerCalled p (polled_as s.who) s.poll s.waker) ≡ false
  Hushes p (Op.Run (RunOp.WakeOwn x)) = t (Event.WakerCalled p (Polled.Run x.run) x.poll x.waker) ≡ false
  Hushes p (Op.Table (TableOp.Enter mark)) = (f : ℕ) → t (Event.Accepted p f) ≡ false
  Hushes p (Op.User (UserOp.BeginDrop f)) = t (Event.Dropped p f) ≡ false
  Hushes p (Op.Closing ClosingOp.DropNext) = (f : ℕ) → t (Event.Dropped p f) ≡ false
  Hushes p _ = Unit {0}

  hushed-told : {p : ℕ} {o : Op} {e : Event} → Tells p o e → Hushes p o → t e ≡ false
  hushed-told (accepted m f) z = z f
  hushed-told (future_dropped f) z = z
  hushed-told (next_dropped f) z = z f
  hushed-told (awaiter_called f a k) z = z
  hushed-told (sleeper_called s) z = z
  hushed-told (own_called x) z = z
  hushed-told _ z = u _ refl

  parts : (p : ℕ) (o : Op) → Hushes p o → PartsOf Hushed p o
  parts p o z = hushes _ _ _ _ (λ e k. hushed-told k z)

  pub hushed-act : (p : ℕ) (h : Hint) (o : Op) (w : World) → Hushes p o → Hushed w (act p h o w).world
  hushed-act p h o w z = by-act Hushed p h o w (parts p o z)

  pub hushed-wake_next : (p : ℕ) (w : World) (ls : List ℕ) → Hushed w (wake_next_by p w ls).world
  hushed-wake_next p w ls = by-wake_next Hushed p (Op.Closing ClosingOp.WakeNext) (parts p (Op.Closing ClosingOp.WakeNext) tt) w ls refl

  pub hushed-leak_next : (b : Bool) (p : ℕ) (w : World) (ls : List ℕ) → Hushed w (leak_next_by b p w ls).world
  hushed-leak_next b p w ls = by-leak_next Hushed p (Op.Closing ClosingOp.LeakNext) (parts p (Op.Closing ClosingOp.LeakNext) tt) b w ls refl

  hushed-answered : {p : ℕ} {o : Op} {e : Event} → Answers p o e → t e ≡ false
  hushed-answered (answered f a) = u _ refl

  pub hushed-react : (p : ℕ) (o : Op) (e : UserEnd) (w : World) → Hushed w (react p o e w).world
  hushed-react p o e w = by-react Hushed p o e w (hushes _ _ _ _ (λ x k. hushed-answered k))

  abbrev pub HushesCall : ℕ → Call → Type 0
  HushesCall p Call.DropExecutor = t (Event.DropBegun p) ≡ false
  HushesCall p _ = Unit {0}

  hushed-at_begin : {p : ℕ} {c : Call} {e : Event} → Begins p c e → HushesCall p c → t e ≡ false
  hushed-at_begin drop_begun z = z
  hushed-at_begin _ z = u _ refl

  pub hushed-begun : (p : ℕ) (w : World) (here : Option Waker) (c : Call) → HushesCall p c →
      Hushed w (begun p w here c).world
  hushed-begun p w here c z = by-begun Hushed p w here c (hushes _ _ _ _ (λ e k. hushed-at_begin k z))

  -- and the beginning of the call before it
  pub hushed-called : (p : ℕ) (w : World) (here : Option Waker) (c : Call) → HushesCall p c →
      Hushed w (begun p (log w (Event.CallBegun p c)) here c).world
  hushed-called p w here c z = let v : World = log w (Event.CallBegun p c) in
      both w v _ (one w v (Event.CallBegun p c) refl (u _ refl)) (hushed-begun p v here c z)
