-- For own_queues_agree.
-- What each thing to do, and the beginning of a call, adds to the trace.
use Rattle.std.proofs.Common.{◌≡◌, ◌∙◌, ℕ, [], ◌∷◌, ◌++◌, Bool, true, false, refl, sym, ap, append-nil}
use Rattle.std.{proofs.lemmas.List.append_assoc, specs.Prelude.Option}
use Rattle.executor_model.proofs.Types.{Move, Call, Event, Op, StealOp, Waker, Hint, UserEnd}
use Rattle.executor_model.specs.Steps.{accepts, begun, react}
use Rattle.executor_model.specs.{Doing.act, World.World, Trace.Trace, Trace.has}
use Rattle.executor_model.proofs.Steps.Parts.{Parts, Stay, Tells, Begins, Answers, by-begun, by-react}
use Rattle.executor_model.proofs.Steps.Parts.Tells.{began, runnable_kept, ended}
use Rattle.executor_model.proofs.{Steps.Tests.or-false, Steps.TraceMore.has-append, Steps.ByParts.by-act}
use Rattle.executor_model.proofs.{Steps.Parts.Answers.answered, Steps.Parts.Begins.run_polled, Steps.Parts.Begins.run_dropped}

-- it begins or ends no call, no poll of a future or of a run and no drop of a run, and no run keeps anything by it
abbrev pub is_ordinary : Event → Bool
is_ordinary (Event.CallBegun p c) = false
is_ordinary (Event.CallEnded p r) = false
is_ordinary (Event.PollBegun p f) = false
is_ordinary (Event.RunPolled p r) = false
is_ordinary (Event.RunDropped p r) = false
is_ordinary (Event.Kept p f r) = false
is_ordinary _ = true

-- what is added passes no such test as passes no ordinary event
module _ (t : Event → Bool) (u : (e : Event) → is_ordinary e ≡ true → t e ≡ false) where
  pub record Grows (w v : World) : Type 0 where
    pub more : Trace
    pub is : v.trace ≡ w.trace ++ more
    pub none : has t more ≡ false

  pub grows : (w v : World) → v.trace ≡ w.trace → Grows w v
  grows w v e = record { more = []; is = e ∙ sym (append-nil w.trace); none = refl }

  pub grows-and : (w v x : World) → Grows w v → Grows v x → Grows w x
  grows-and w v x a b = record {
    more = a.more ++ b.more;
    is = b.is ∙ (ap (λ (xs : Trace). xs ++ b.more) a.is ∙ append_assoc w.trace a.more b.more);
    none = has-append t a.more b.more a.none b.none;
  }

  pub grows-one : (w v : World) (e : Event) → t e ≡ false → v.trace ≡ w.trace ++ e ∷ [] → Grows w v
  grows-one w v e z q = record { more = e ∷ []; is = q; none = or-false (t e) z }

  -- so it grows by each part
  growing : {T : Event → Type 0} (x a b c : Bool) → ((e : Event) → T e → t e ≡ false) → Parts Grows T x a b c
  growing x a b c k = record {
    aside = λ w v e. grows w v (ap (λ (x : Stay). x.trace) (sym e));
    both = grows-and;
    moved = λ w f s. grows w _ refl;
    stored = λ w f x. grows w _ refl;
    placed = λ w f x y. grows w _ refl;
    kept = λ w ws y. grows w _ refl;
    turned = λ w n y. grows w _ refl;
    listed = λ w x ts ls ks y. grows w _ refl;
    entered = λ w s m y. grows w _ refl;
    tells = λ w e z. grows-one w _ e (k e z) refl;
  }

  -- what it adds beside is known
  abbrev pub Allows : ℕ → Op → Type 0
  Allows p (Op.Move Move.TakeUp f) = t (Event.PollBegun p f) ≡ false
  Allows p (Op.Steal (StealOp.Put s more f)) = t (Event.Kept p f s.poll.run) ≡ false
  Allows p (Op.End a held) = t (Event.CallEnded p a) ≡ false
  Allows p _ = Unit {0}

  grows-told : {p : ℕ} {o : Op} {e : Event} → Tells p o e → Allows p o → t e ≡ false
  grows-told (began f) z = z
  grows-told (runnable_kept s more f) z = z
  grows-told (ended a held) z = z
  grows-told _ z = u _ refl

  pub grows-act : (p : ℕ) (h : Hint) (o : Op) (w : World) → Allows p o → Grows w (act p h o w).world
  grows-act p h o w z = by-act Grows p h o w (growing _ _ _ _ (λ e k. grows-told k z))

  grows-answered : {p : ℕ} {o : Op} {e : Event} → Answers p o e → t e ≡ false
  grows-answered (answered f a) = u _ refl

  pub grows-react : (p : ℕ) (o : Op) (u : UserEnd) (w : World) → accepts o u ≡ true → Grows w (react p o u w).world
  grows-react p o u w a = by-react Grows p o u w (growing _ _ _ _ (λ e k. grows-answered k))

  -- the beginning of a call

  abbrev pub AllowsCall : ℕ → Call → Type 0
  AllowsCall p (Call.PollRun r b) = t (Event.RunPolled p r) ≡ false
  AllowsCall p (Call.DropRun r) = t (Event.RunDropped p r) ≡ false
  AllowsCall p _ = Unit {0}

  grows-at_begin : {p : ℕ} {c : Call} {e : Event} → Begins p c e → AllowsCall p c → t e ≡ false
  grows-at_begin (run_polled r b) z = z
  grows-at_begin (run_dropped r) z = z
  grows-at_begin _ z = u _ refl

  pub grows-begun : (p : ℕ) (w : World) (here : Option Waker) (c : Call) → AllowsCall p c →
      Grows w (begun p w here c).world
  grows-begun p w here c z = by-begun Grows p w here c (growing _ _ _ _ (λ e k. grows-at_begin k z))
