-- What the headline says of a trace is what the laws say.
use Rattle.std.proofs.Common.{◌≡◌, ◌<◌, ◌≤◌, ℕ, Bool, true, false, [], ◌∷◌, refl, sym, ◌∙◌, arith}
use Rattle.std.specs.List.{list_any, after_last}
use Rattle.executor_model.specs.declared.call.Reply.{Reply}
use Rattle.executor_model.specs.declared.call.Reply.TheVariants.{NoMemory}
use Rattle.executor_model.specs.declared.event.Event.{Event}
use Rattle.executor_model.specs.declared.op.TickOrRun.{TickOrRun}
use Rattle.executor_model.specs.declared.event.Event.TheVariants as event
use Rattle.executor_model.specs.declared.op.TickOrRun.TheVariants.{Tick, Run}
use Rattle.executor_model.specs.Trace.{Trace}
use Rattle.executor_model.specs.AwaiterKept
use Rattle.executor_model.specs.Due
use Rattle.executor_model.specs.Keeper
use Rattle.executor_model.specs.Standing
use Rattle.executor_laws.specs.Called
use Rattle.executor_laws.specs.RunReach
use Rattle.executor_core.specs.Headline as headline

-- a call's answer

abbrev pub ended : (p : ℕ) (r : Reply) (l : Trace) → headline.EndsWith p r l → AwaiterKept.EndsWith p r l
ended p r l e = record { place = e.place; here = e.here; inner = e.inner; first = e.first }

abbrev pub ends : (p : ℕ) (r : Reply) (l : Trace) → AwaiterKept.EndsWith p r l → headline.EndsWith p r l
ends p r l e = record { place = e.place; here = e.here; inner = e.inner; first = e.first }

-- due futures

same-asking : (f : ℕ) (e : Event) → headline.asks_for f e ≡ Due.is_request f e
same-asking f (event.Accepted p g) = grind arith
same-asking f (event.Woken p g) = grind arith
same-asking f (event.Cancelled p g) = grind arith
same-asking f (event.LastWaker p g) = grind arith
same-asking f (event.Leaked p g) = grind arith
same-asking f _ = refl

same-asked : (f : ℕ) (es : Trace) → list_any (headline.asks_for f) es ≡ list_any (Due.is_request f) es
same-asked f [] = refl
same-asked f (e ∷ es) = let r = same-asked f es in let h = same-asking f e in rw h (rw r refl)

no-two : (b : Bool) → b ≡ true → b ≡ false → ⊥
no-two b h k = absurd (cc)

sure : (b : Bool) → ¬ (b ≡ false) → b ≡ true
sure true h = refl
sure false h = absurd (h refl)

pub due-of : (f : ℕ) (t : Trace) → headline.IsDue f t → Due.IsDue f t
due-of f t d = record {
  accepted = d.accepted;
  undropped = d.undropped;
  unready = d.unready;
  resting = λ o. no-two _ (d.resting o.begun) o.unanswered;
  asked_for = sym (same-asked f (after_last (headline.is_poll f) t)) ∙ d.asked_for;
}

pub is-due : (f : ℕ) (t : Trace) → Due.IsDue f t → headline.IsDue f t
is-due f t d = record {
  accepted = d.accepted;
  undropped = d.undropped;
  unready = d.unready;
  resting = λ b. sure _ (λ u. d.resting (record { begun = b; unanswered = u }));
  asked_for = same-asked f (after_last (headline.is_poll f) t) ∙ d.asked_for;
}

-- keepers

later-not : (a b : ℕ) → ¬ (a < b) → b ≤ a
later-not a b h = grind (arith, h)

pub keeper-of : (r f : ℕ) (t : Trace) → headline.IsKeeper r f t → Keeper.IsKeeper r f t
keeper-of r f t k = record {
  party = k.party;
  place = k.place;
  kept = k.kept;
  last = k.last;
  unpolled = k.unpolled;
  undropped = k.undropped;
  unready = λ a.
      let m = k.unready a.party a.poll a.polled (ends _ _ _ a.ready) in
      let l = a.later in absurd (omega (arith, m, l));
}

pub is-keeper : (r f : ℕ) (t : Trace) → Keeper.IsKeeper r f t → headline.IsKeeper r f t
is-keeper r f t k = record {
  party = k.party;
  place = k.place;
  kept = k.kept;
  last = k.last;
  unpolled = k.unpolled;
  undropped = k.undropped;
  unready = λ p n polled e. later-not _ _ (λ l. k.unready (record {
    party = p;
    poll = n;
    polled = polled;
    ready = ended _ _ _ e;
    later = l;
  }));
}

pub kept-of : (r f : ℕ) (t : Trace) → headline.Keeps r f t → RunReach.Keeps r f t
kept-of r f t k = record { due = due-of f t k.due; keeper = keeper-of r f t k.keeper }

pub keeps : (r f : ℕ) (t : Trace) → RunReach.Keeps r f t → headline.Keeps r f t
keeps r f t k = record { due = is-due f t k.due; keeper = is-keeper r f t k.keeper }

pub common-of : (f : ℕ) (t : Trace) → headline.IsCommon f t → Keeper.IsCommon f t
common-of f t c = record { due = due-of f t c.due; unkept = λ r k. c.unkept r (is-keeper r f t k) }

pub is-common : (f : ℕ) (t : Trace) → Keeper.IsCommon f t → headline.IsCommon f t
is-common f t c = record { due = is-due f t c.due; unkept = λ r k. c.unkept r (keeper-of r f t k) }

-- who stands, and is called

last-of : (who : TickOrRun) (p n : ℕ) (t : Trace) → headline.IsLastPoll (headline.sleeper who) p n t →
    Standing.LastPolled who p n t
last-of (Tick u) p n t l = record { polled = l.polled; last = l.last }
last-of (Run r) p n t l = record { polled = l.polled; last = l.last }

is-last : (who : TickOrRun) (p n : ℕ) (t : Trace) → Standing.LastPolled who p n t →
    headline.IsLastPoll (headline.sleeper who) p n t
is-last (Tick u) p n t l = record { polled = l.polled; last = l.last }
is-last (Run r) p n t l = record { polled = l.polled; last = l.last }

same-drops : (who : TickOrRun) (t : Trace) →
    list_any (headline.drops (headline.sleeper who)) t ≡ list_any (Standing.drops_sleeper who) t
same-drops (Tick u) t = refl
same-drops (Run r) t = refl

same-calls : (who : TickOrRun) (n : ℕ) (t : Trace) →
    list_any (headline.calls_waker (headline.sleeper who) n) t ≡ list_any (Standing.calls_poll who n) t
same-calls (Tick u) n t = refl
same-calls (Run r) n t = refl

stood : (who : TickOrRun) (t : Trace) → headline.Stands (headline.sleeper who) t → Standing.Stands who t
stood who t s = record {
  party = s.pending.party;
  poll = s.pending.poll;
  lives = sym (same-drops who t) ∙ s.lives;
  polled = last-of who _ _ t s.pending.polled;
  pending = ended _ _ _ s.pending.answered;
}

stands : (who : TickOrRun) (t : Trace) → Standing.Stands who t → headline.Stands (headline.sleeper who) t
stands who t s = record {
  lives = same-drops who t ∙ s.lives;
  pending = record {
    party = s.party;
    poll = s.poll;
    polled = is-last who _ _ t s.polled;
    answered = ends _ _ _ s.pending;
  };
}

is-called : (who : TickOrRun) (t : Trace) → Standing.WasCalled who t → headline.IsCalled (headline.sleeper who) t
is-called who t c = record {
  party = c.party;
  poll = c.poll;
  polled = is-last who _ _ t c.polled;
  called = same-calls who c.poll _ ∙ c.called;
}

refused : (who : TickOrRun) (t : Trace) → Called.WasRefused who t → headline.WasAnswered (headline.sleeper who) NoMemory t
refused who t w = record {
  party = w.party;
  poll = w.poll;
  polled = is-last who _ _ t w.polled;
  answered = ends _ _ _ w.refused;
}

pub some-called : (f : ℕ) (t : Trace) → Called.SomeStandingIsCalled f t → headline.SomeStandingIsCalled f t
some-called f t law q d who s none =
    let one = law who q (due-of f t d) (stood who t s) (λ w l r. none w (same-drops w t ∙ l) (refused w t r)) in
    (one.who, stands one.who t one.stands, is-called one.who t one.called)

pub keeper-called : (f : ℕ) (t : Trace) → Called.KeeperIsCalled f t → headline.KeeperIsCalled f t
keeper-called f t law r q k none =
    let both = law r q (due-of f t k.due) (keeper-of r f t k.keeper) (λ w. none (refused (Run r) t w)) in
    (stands (Run r) t both.0, is-called (Run r) t both.1)

pub awaiter-kept : (f : ℕ) (t : Trace) → AwaiterKept.AwaiterIsKept f t → headline.AwaiterIsKept f t
awaiter-kept f t law q d s = record {
  party = s.pending.party;
  poll = s.pending.poll;
  polled = s.pending.polled;
  called = law s.pending.party s.pending.poll (record { quiet = q; handle = s.lives; dropped = d }) (record {
    polled = s.pending.polled.polled;
    last = s.pending.polled.last;
    pending = ended _ _ _ s.pending.answered;
  });
}
