-- For own_queues_agree.
-- What each thing to do tells of a run's last poll: nothing, but that its waker may be called.
use Rattle.std.proofs.Common.{◌≡◌, ◌∙◌, ℕ, [], ◌∷◌, ◌++◌, length, Bool, true, false, ◌&&◌, eqb, refl, sym, subst}
use Rattle.executor_model.proofs.Types.{Move, Event, Op, Polled, StealOp, Hint, UserEnd}
use Rattle.executor_model.specs.{Doing.act, Steps.accepts, Steps.react, Trace.Trace, Trace.has, World.World}
use Rattle.executor_model.proofs.OwnQueues.RunsWatched.{Watched, watched, watched-push, watches}
use Rattle.executor_model.proofs.Steps.TraceGrows.{Allows, Grows, grows-act, grows-react, is_ordinary}
use Rattle.executor_model.proofs.{Steps.TraceMore.over-more, Steps.Tests.or-left}

abbrev pub polls_run : Event → Bool
polls_run (Event.RunPolled p q) = true
polls_run _ = false

ordinary-polls : (e : Event) → is_ordinary e ≡ true → polls_run e ≡ false
ordinary-polls (Event.RunPolled p q) z = absurd (cc)
ordinary-polls _ z = refl

-- the last poll stays, and what was called stays so
pub record Later (a b : Watched) : Type 0 where
  pub polled : b.polled ≡ a.polled
  pub poll : b.poll ≡ a.poll
  pub called : a.called ≡ true → b.called ≡ true

same-later : (a : Watched) → Later a a
same-later a = record { polled = refl; poll = refl; called = λ e. e }

later-and : (a b c : Watched) → Later a b → Later b c → Later a c
later-and a b c x y = record {
  polled = y.polled ∙ x.polled;
  poll = y.poll ∙ x.poll;
  called = λ e. y.called (x.called e);
}

module _ (r : ℕ) where
  mild : (n : ℕ) (e : Event) (s : Watched) → polls_run e ≡ false → Later s (watches r n e s)
  mild n (Event.RunPolled p q) s z = absurd (cc)
  mild n (Event.WakerCalled p (Polled.Run q) k a) s z =
      record { polled = refl; poll = refl; called = or-left s.called (eqb r q && eqb s.poll k) }
  mild n _ s z = same-later s

  pub record Seen (w v : World) : Type 0 where
    pub polled : (watched r v.trace).polled ≡ (watched r w.trace).polled
    pub poll : (watched r v.trace).poll ≡ (watched r w.trace).poll
    pub called : (watched r w.trace).called ≡ true → (watched r v.trace).called ≡ true

  pub seen-later : (w v : World) → Later (watched r w.trace) (watched r v.trace) → Seen w v
  seen-later w v l = record { polled = l.polled; poll = l.poll; called = l.called }

  pub seen : (w v : World) → v.trace ≡ w.trace → Seen w v
  seen w v e = seen-later w v
      (subst (λ (t : Trace). Later (watched r w.trace) (watched r t)) (sym e) (same-later (watched r w.trace)))

  pub seen-and : (w v u : World) → Seen w v → Seen v u → Seen w u
  seen-and w v u a b = record {
    polled = b.polled ∙ a.polled;
    poll = b.poll ∙ a.poll;
    called = λ e. b.called (a.called e);
  }

  later-push : (es : Trace) (e : Event) → polls_run e ≡ false → Later (watched r es) (watched r (es ++ e ∷ []))
  later-push es e z = subst (Later (watched r es)) (sym (watched-push r es e)) (mild (length es) e (watched r es) z)

  pub seen-log : (w v : World) (e : Event) → polls_run e ≡ false → v.trace ≡ w.trace ++ e ∷ [] → Seen w v
  seen-log w v e z q = seen-later w v
      (subst (λ (t : Trace). Later (watched r w.trace) (watched r t)) (sym q) (later-push w.trace e z))

  later-more : (es more : Trace) → has polls_run more ≡ false → Later (watched r es) (watched r (es ++ more))
  later-more es more z = over-more (λ (now : Trace). Later (watched r es) (watched r now)) polls_run
      (λ now e n h. later-and (watched r es) (watched r now) (watched r (now ++ e ∷ [])) h (later-push now e n))
      es more z (same-later (watched r es))

  seen-grown : (w v : World) → Grows polls_run ordinary-polls w v → Seen w v
  seen-grown w v g = seen-later w v
      (subst (λ (t : Trace). Later (watched r w.trace) (watched r t)) (sym g.is) (later-more w.trace g.more g.none))

  pub seen-act : (p : ℕ) (h : Hint) (o : Op) (w : World) → Seen w (act p h o w).world
  seen-act p h o w = seen-grown w (act p h o w).world (grows-act polls_run ordinary-polls p h o w (allows o))
    where
      allows : (x : Op) → Allows polls_run ordinary-polls p x
      allows (Op.Move Move.TakeUp f) = refl
      allows (Op.Steal (StealOp.Put s more f)) = refl
      allows (Op.End a held) = refl
      allows _ = tt

  pub seen-react : (p : ℕ) (o : Op) (u : UserEnd) (w : World) → accepts o u ≡ true → Seen w (react p o u w).world
  seen-react p o u w a = seen-grown w (react p o u w).world (grows-react polls_run ordinary-polls p o u w a)
