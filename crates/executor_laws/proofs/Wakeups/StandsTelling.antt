-- For some_standing_is_called.
-- What is seen of a tick or run and of its last poll is what the definitions over the trace say.
use Rattle.std.proofs.Common.{◌≡◌, ◌⊎◌, ◌∙◌, ℕ, zero, suc, ◌+◌, [], ◌∷◌, drop, Bool, true, false, ◌&&◌, ◌||◌, cond, eqb, refl}
use Rattle.std.proofs.Common.{sym, ap, subst, inl, inr, ⊎_elim, arith}
use Rattle.std.{proofs.Math.Bool.or_assoc, specs.Prelude.Some, specs.Prelude.slice_get}
use Rattle.executor_laws.proofs.Types.{Reply, Event, Polled, TickOrRun}
use Rattle.executor_model.specs.Trace.{Trace, has}
use Rattle.executor_model.specs.Standing.{calls_poll, drops_sleeper, poll_of, polls_sleeper}
use Rattle.executor_laws.proofs.Wakeups.Watched.{Watched, called_at, unwatched, is_pending, is_refusal, parted, poll_begun}
use Rattle.executor_laws.proofs.Wakeups.Watched.{ended_in, watches, watched_from, watched}
use Rattle.executor_laws.proofs.Wakeups.Sitting.{eq-is, eq-self, eq_who}

-- the same events, by what they are first

abbrev pub polls_it : TickOrRun → Event → Bool
polls_it who (Event.TickPolled p u) = eq_who who (TickOrRun.Tick u)
polls_it who (Event.RunPolled p q) = eq_who who (TickOrRun.Run q)
polls_it who _ = false

abbrev pub drops_it : TickOrRun → Event → Bool
drops_it who (Event.TickDropped p u) = eq_who who (TickOrRun.Tick u)
drops_it who (Event.RunDropped p q) = eq_who who (TickOrRun.Run q)
drops_it who _ = false

abbrev pub calls_it : TickOrRun → ℕ → Event → Bool
calls_it who k (Event.WakerCalled p (Polled.Tick u) n a) = eq_who who (TickOrRun.Tick u) && eqb k n
calls_it who k (Event.WakerCalled p (Polled.Run q) n a) = eq_who who (TickOrRun.Run q) && eqb k n
calls_it who k _ = false

polls-one : (who : TickOrRun) (e : Event) → polls_sleeper who e ≡ polls_it who e
polls-one (TickOrRun.Tick t) (Event.TickPolled p u) = refl
polls-one (TickOrRun.Tick t) (Event.RunPolled p q) = refl
polls-one (TickOrRun.Run r) (Event.TickPolled p u) = refl
polls-one (TickOrRun.Run r) (Event.RunPolled p q) = refl
polls-one (TickOrRun.Tick t) _ = refl
polls-one (TickOrRun.Run r) _ = refl

drops-one : (who : TickOrRun) (e : Event) → drops_sleeper who e ≡ drops_it who e
drops-one (TickOrRun.Tick t) (Event.TickDropped p u) = refl
drops-one (TickOrRun.Tick t) (Event.RunDropped p q) = refl
drops-one (TickOrRun.Run r) (Event.TickDropped p u) = refl
drops-one (TickOrRun.Run r) (Event.RunDropped p q) = refl
drops-one (TickOrRun.Tick t) _ = refl
drops-one (TickOrRun.Run r) _ = refl

calls-one : (who : TickOrRun) (k : ℕ) (e : Event) → calls_poll who k e ≡ calls_it who k e
calls-one (TickOrRun.Tick t) k (Event.WakerCalled p (Polled.Tick u) n a) = refl
calls-one (TickOrRun.Tick t) k (Event.WakerCalled p (Polled.Run q) n a) = refl
calls-one (TickOrRun.Tick t) k (Event.WakerCalled p (Polled.Handle f) n a) = refl
calls-one (TickOrRun.Run r) k (Event.WakerCalled p (Polled.Tick u) n a) = refl
calls-one (TickOrRun.Run r) k (Event.WakerCalled p (Polled.Run q) n a) = refl
calls-one (TickOrRun.Run r) k (Event.WakerCalled p (Polled.Handle f) n a) = refl
calls-one (TickOrRun.Tick t) k _ = refl
calls-one (TickOrRun.Run r) k _ = refl

has-same : (a b : Event → Bool) → ((e : Event) → a e ≡ b e) → (es : Trace) → has a es ≡ has b es
has-same a b k [] = refl
has-same a b k (e ∷ es) = λ i. k e i || has-same a b k es i

pub polls-is : (who : TickOrRun) (es : Trace) → has (polls_sleeper who) es ≡ has (polls_it who) es
polls-is who es = has-same (polls_sleeper who) (polls_it who) (polls-one who) es

pub drops-is : (who : TickOrRun) (es : Trace) → has (drops_sleeper who) es ≡ has (drops_it who) es
drops-is who es = has-same (drops_sleeper who) (drops_it who) (drops-one who) es

pub calls-is : (who : TickOrRun) (k : ℕ) (es : Trace) → has (calls_poll who k) es ≡ has (calls_it who k) es
calls-is who k es = has-same (calls_poll who k) (calls_it who k) (calls-one who k) es

or-false : (b : Bool) → b ≡ (b || false)
or-false true = refl
or-false false = refl

pub or-none : (a b : Bool) → (a || b) ≡ false → (a ≡ false) × (b ≡ false)
or-none false false e = (refl, refl)
or-none true b e = absurd (cc)
or-none false true e = absurd (cc)

pub has-later : (test : Event → Bool) (k : ℕ) (es : Trace) → has test es ≡ false → has test (drop k es) ≡ false
has-later test zero es e = e
has-later test (suc k) [] e = e
has-later test (suc k) (x ∷ es) e = has-later test k es (or-none (test x) (has test es) e).1

-- a field that no end of a call changes
ended-same : {X : Type 0} (field : Watched → X) → ((r : Reply) (s : Watched) →
    field (record s { asking = false; pending = is_pending r; refused = is_refusal r }) ≡ field s) →
    ((n : ℕ) (s : Watched) → field (record s { inner = n }) ≡ field s) → (b : Bool) (m : ℕ) (r : Reply) (s : Watched) →
    field (cond b (ended_in m r s) s) ≡ field s
ended-same field k l true zero r s = k r s
ended-same field k l true (suc n) r s = l n s
ended-same field k l false m r s = refl

-- its drop has begun

left-polled : (b : Bool) (n p : ℕ) (s : Watched) → (cond b (poll_begun n p s) s).left ≡ s.left
left-polled true n p s = refl
left-polled false n p s = refl

left-dropped : (b : Bool) (s : Watched) → (cond b (parted s) s).left ≡ (s.left || b)
left-dropped true s = by s.left
  where
    by : (b : Bool) → true ≡ (b || true)
    by true = refl
    by false = refl
left-dropped false s = or-false s.left

-- its waker is called
called-left : (b : Bool) (k : ℕ) (s : Watched) → (cond b (called_at k s) s).left ≡ s.left
called-left true k s = refl
called-left false k s = refl

left-one : (t : TickOrRun) (n : ℕ) (e : Event) (s : Watched) → (watches t n e s).left ≡ (s.left || drops_it t e)
left-one t n (Event.TickPolled p u) s = left-polled (eq_who t (TickOrRun.Tick u)) n p s ∙ or-false s.left
left-one t n (Event.RunPolled p q) s = left-polled (eq_who t (TickOrRun.Run q)) n p s ∙ or-false s.left
left-one t n (Event.TickDropped p u) s = left-dropped (eq_who t (TickOrRun.Tick u)) s
left-one t n (Event.RunDropped p q) s = left-dropped (eq_who t (TickOrRun.Run q)) s
left-one t n (Event.CallEnded p r) s = ended-same (λ (x : Watched). x.left) (λ r s. refl) (λ n s. refl) _ s.inner r s
    ∙ or-false s.left
left-one t n (Event.WakerCalled p (Polled.Tick u) k a) s = called-left (eq_who t (TickOrRun.Tick u)) k s ∙ or-false s.left
left-one t n (Event.WakerCalled p (Polled.Run q) k a) s = called-left (eq_who t (TickOrRun.Run q)) k s ∙ or-false s.left
left-one t n _ s = or-false s.left

left-from : (t : TickOrRun) (n : ℕ) (s : Watched) (es : Trace) →
    (watched_from t n s es).left ≡ (s.left || has (drops_it t) es)
left-from t n s [] = or-false s.left
left-from t n s (e ∷ es) = left-from t (suc n) (watches t n e s) es
    ∙ (ap (λ (b : Bool). b || has (drops_it t) es) (left-one t n e s) ∙ or_assoc s.left (drops_it t e)
    (has (drops_it t) es))

pub left-has : (t : TickOrRun) (es : Trace) → (watched t es).left ≡ has (drops_it t) es
unfolding watched
left-has t es = left-from t 0 unwatched es

-- its last poll

pub record LastPoll (t : TickOrRun) (es : Trace) : Type 0 where
  pub party : ℕ
  pub poll : ℕ
  pub polled : slice_get es poll ≡ Some (poll_of t party)
  pub last : has (polls_it t) (drop (suc poll) es) ≡ false

poll-is : (t : TickOrRun) (e : Event) → polls_it t e ≡ true → (p : ℕ) × (e ≡ poll_of t p)
poll-is t (Event.TickPolled p u) k = (p, ap (λ (w : TickOrRun). poll_of w p) (sym (eq-is t (TickOrRun.Tick u) k)))
poll-is t (Event.RunPolled p q) k = (p, ap (λ (w : TickOrRun). poll_of w p) (sym (eq-is t (TickOrRun.Run q) k)))
poll-is t _ k = absurd (cc)

pub last-poll : (t : TickOrRun) (es : Trace) → (has (polls_it t) es ≡ false) ⊎ LastPoll t es
last-poll t [] = inl refl
last-poll t (e ∷ es) = ⊎_elim
    (λ (z : has (polls_it t) es ≡ false). by (polls_it t e) refl z)
    (λ (x : LastPoll t es). inr (record { party = x.party; poll = suc x.poll; polled = x.polled; last = x.last }))
    (last-poll t es)
  where
    by : (b : Bool) → polls_it t e ≡ b → has (polls_it t) es ≡ false →
        (has (polls_it t) (e ∷ es) ≡ false) ⊎ LastPoll t (e ∷ es)
    by true q z = let x : _ = poll-is t e q in
        inr (record { party = x.0; poll = 0; polled = ap (λ (y : Event). Some y) x.1; last = z })
    by false q z = inl (ap (λ (b : Bool). b || has (polls_it t) es) q ∙ z)

pub not-polled : (b : Bool) (n p : ℕ) (s : Watched) → b ≡ false → cond b (poll_begun n p s) s ≡ s
not-polled false n p s e = refl
not-polled true n p s e = absurd (cc)

pub not-dropped : (b : Bool) (s : Watched) → b ≡ false → cond b (parted s) s ≡ s
not-dropped false s e = refl
not-dropped true s e = absurd (cc)

-- what is seen where it begins

watches-own : (t : TickOrRun) (n p : ℕ) (s : Watched) → watches t n (poll_of t p) s ≡ poll_begun n p s
watches-own (TickOrRun.Tick t) n p s = ap (λ (b : Bool). cond b (poll_begun n p s) s) (eq-self (TickOrRun.Tick t))
watches-own (TickOrRun.Run r) n p s = ap (λ (b : Bool). cond b (poll_begun n p s) s) (eq-self (TickOrRun.Run r))

pub record Begun (t : TickOrRun) (poll party : ℕ) (es : Trace) : Type 0 where
  pub before : Watched
  pub all : watched t es ≡ watched_from t (suc poll) (poll_begun poll party before) (drop (suc poll) es)

begun-from : (t : TickOrRun) (n k p : ℕ) (s : Watched) (es : Trace) → slice_get es k ≡ Some (poll_of t p) →
    (before : Watched) × (watched_from t n s es ≡ watched_from t (suc (n + k)) (poll_begun (n + k) p before)
    (drop (suc k) es))
begun-from t n k p s [] e = absurd (cc)
begun-from t n zero p s (x ∷ es) e =
    let q : x ≡ poll_of t p = cc in (
      s,
      ap (λ (y : Event). watched_from t (suc n) (watches t n y s) es) q
          ∙ (ap (λ (w : Watched). watched_from t (suc n) w es) (watches-own t n p s)
          ∙ ap (λ (m : ℕ). watched_from t (suc m) (poll_begun m p s) es) (let z : n ≡ n + zero = omega arith in z)),
    )
begun-from t n (suc k) p s (x ∷ es) e =
    let ih : _ = begun-from t (suc n) k p (watches t n x s) es e in (
      ih.0,
      ih.1 ∙ ap (λ (m : ℕ). watched_from t (suc m) (poll_begun m p ih.0) (drop (suc k) es))
          (let z : suc n + k ≡ n + suc k = omega arith in z),
    )

pub begun-at : (t : TickOrRun) (k p : ℕ) (es : Trace) → slice_get es k ≡ Some (poll_of t p) → Begun t k p es
unfolding watched
begun-at t k p es e =
    let x : _ = begun-from t 0 k p unwatched es e in
    record {
      before = x.0;
      all = x.1
          ∙ ap (λ (m : ℕ). watched_from t (suc m) (poll_begun m p x.0) (drop (suc k) es))
          (let z : 0 + k ≡ k = omega arith in z);
    }

-- one that was never polled has no answer

abbrev IsUnasked : Watched → Type 0
IsUnasked s = (s.asking ≡ false) × (s.pending ≡ false) × (s.refused ≡ false)

unasked-dropped : (b : Bool) (s : Watched) → IsUnasked s →
    IsUnasked (cond b (parted s) s)
unasked-dropped true s h = (h.0, refl, refl)
unasked-dropped false s h = h

unasked-called : (b : Bool) (k : ℕ) (s : Watched) → IsUnasked s → IsUnasked (cond b (called_at k s) s)
unasked-called true k s h = h
unasked-called false k s h = h

unasked-one : (t : TickOrRun) (n : ℕ) (e : Event) (s : Watched) → polls_it t e ≡ false → IsUnasked s →
    IsUnasked (watches t n e s)
unasked-one t n (Event.TickPolled p u) s k h = subst IsUnasked (sym (not-polled (eq_who t (TickOrRun.Tick u)) n p s k)) h
unasked-one t n (Event.RunPolled p q) s k h = subst IsUnasked (sym (not-polled (eq_who t (TickOrRun.Run q)) n p s k)) h
unasked-one t n (Event.TickDropped p u) s k h = unasked-dropped (eq_who t (TickOrRun.Tick u)) s h
unasked-one t n (Event.RunDropped p q) s k h = unasked-dropped (eq_who t (TickOrRun.Run q)) s h
unasked-one t n (Event.CallEnded p r) s k h =
    subst (λ (a : Bool). IsUnasked (cond (a && eqb s.party p) (ended_in s.inner r s) s)) (sym h.0) h
unasked-one t n (Event.WakerCalled p (Polled.Tick u) x a) s k h = unasked-called (eq_who t (TickOrRun.Tick u)) x s h
unasked-one t n (Event.WakerCalled p (Polled.Run q) x a) s k h = unasked-called (eq_who t (TickOrRun.Run q)) x s h
unasked-one t n _ s k h = h

unasked-from : (t : TickOrRun) (n : ℕ) (s : Watched) (es : Trace) → has (polls_it t) es ≡ false → IsUnasked s →
    IsUnasked (watched_from t n s es)
unasked-from t n s [] k h = h
unasked-from t n s (e ∷ es) k h = let x : _ = or-none (polls_it t e) (has (polls_it t) es) k in
    unasked-from t (suc n) (watches t n e s) es x.1 (unasked-one t n e s x.0 h)

pub unasked-all : (t : TickOrRun) (es : Trace) → has (polls_it t) es ≡ false → (watched t es).asking ≡ false
unfolding watched
unasked-all t es k = (unasked-from t 0 unwatched es k (refl, refl, refl)).0

pub unasked : (t : TickOrRun) (es : Trace) → has (polls_it t) es ≡ false →
    ((watched t es).pending ≡ false) × ((watched t es).refused ≡ false)
unfolding watched
unasked t es k = let x : _ = unasked-from t 0 unwatched es k (refl, refl, refl) in (x.1, x.2)

-- its waker was called

called-poll : (b : Bool) (k : ℕ) (s : Watched) → (cond b (called_at k s) s).poll ≡ s.poll
called-poll true k s = refl
called-poll false k s = refl

called-by : (b : Bool) (k : ℕ) (s : Watched) → (cond b (called_at k s) s).called ≡ cond b (cond (eqb s.poll k) true
    s.called) s.called
called-by true k s = refl
called-by false k s = refl

or-conds : (a b c : Bool) → cond a (cond b true c) c ≡ (c || (a && b))
or-conds true true true = refl
or-conds true true false = refl
or-conds true false true = refl
or-conds true false false = refl
or-conds false b true = refl
or-conds false b false = refl

called-dropped : (b : Bool) (s : Watched) → (cond b (parted s) s).called ≡ s.called
called-dropped true s = refl
called-dropped false s = refl

poll-dropped : (b : Bool) (s : Watched) → (cond b (parted s) s).poll ≡ s.poll
poll-dropped true s = refl
poll-dropped false s = refl

poll-one : (t : TickOrRun) (n : ℕ) (e : Event) (s : Watched) → polls_it t e ≡ false → (watches t n e s).poll ≡ s.poll
poll-one t n (Event.TickPolled p u) s h = ap (λ (x : Watched). x.poll) (not-polled (eq_who t (TickOrRun.Tick u)) n p s h)
poll-one t n (Event.RunPolled p q) s h = ap (λ (x : Watched). x.poll) (not-polled (eq_who t (TickOrRun.Run q)) n p s h)
poll-one t n (Event.TickDropped p u) s h = poll-dropped (eq_who t (TickOrRun.Tick u)) s
poll-one t n (Event.RunDropped p q) s h = poll-dropped (eq_who t (TickOrRun.Run q)) s
poll-one t n (Event.CallEnded p r) s h = ended-same (λ (x : Watched). x.poll) (λ r s. refl) (λ n s. refl) _ s.inner r s
poll-one t n (Event.WakerCalled p (Polled.Tick u) k a) s h = called-poll (eq_who t (TickOrRun.Tick u)) k s
poll-one t n (Event.WakerCalled p (Polled.Run q) k a) s h = called-poll (eq_who t (TickOrRun.Run q)) k s
poll-one t n _ s h = refl

called-one : (t : TickOrRun) (n : ℕ) (e : Event) (s : Watched) → polls_it t e ≡ false →
    (watches t n e s).called ≡ (s.called || calls_it t s.poll e)
called-one t n (Event.TickPolled p u) s h =
    ap (λ (x : Watched). x.called) (not-polled (eq_who t (TickOrRun.Tick u)) n p s h)
    ∙ or-false s.called
called-one t n (Event.RunPolled p q) s h =
    ap (λ (x : Watched). x.called) (not-polled (eq_who t (TickOrRun.Run q)) n p s h)
    ∙ or-false s.called
called-one t n (Event.TickDropped p u) s h = called-dropped (eq_who t (TickOrRun.Tick u)) s ∙ or-false s.called
called-one t n (Event.RunDropped p q) s h = called-dropped (eq_who t (TickOrRun.Run q)) s ∙ or-false s.called
called-one t n (Event.CallEnded p r) s h = ended-same (λ (x : Watched). x.called) (λ r s. refl) (λ n s. refl) _ s.inner
    r s
    ∙ or-false s.called
called-one t n (Event.WakerCalled p (Polled.Tick u) k a) s h = called-by (eq_who t (TickOrRun.Tick u)) k s
    ∙ or-conds (eq_who t (TickOrRun.Tick u)) (eqb s.poll k) s.called
called-one t n (Event.WakerCalled p (Polled.Run q) k a) s h = called-by (eq_who t (TickOrRun.Run q)) k s
    ∙ or-conds (eq_who t (TickOrRun.Run q)) (eqb s.poll k) s.called
called-one t n _ s h = or-false s.called

pub poll-from : (t : TickOrRun) (n : ℕ) (s : Watched) (es : Trace) → has (polls_it t) es ≡ false →
    (watched_from t n s es).poll ≡ s.poll
poll-from t n s [] h = refl
poll-from t n s (e ∷ es) h = let x : _ = or-none (polls_it t e) (has (polls_it t) es) h in
    poll-from t (suc n) (watches t n e s) es x.1 ∙ poll-one t n e s x.0

pub called-from : (t : TickOrRun) (n k : ℕ) (s : Watched) (es : Trace) → s.poll ≡ k → has (polls_it t) es ≡ false →
    (watched_from t n s es).called ≡ (s.called || has (calls_it t k) es)
called-from t n k s [] q h = or-false s.called
called-from t n k s (e ∷ es) q h =
    let x : _ = or-none (polls_it t e) (has (polls_it t) es) h in
    called-from t (suc n) k (watches t n e s) es (poll-one t n e s x.0 ∙ q) x.1
    ∙ (ap (λ (b : Bool). b || has (calls_it t k) es)
    (called-one t n e s x.0 ∙ ap (λ (m : ℕ). s.called || calls_it t m e) q)
    ∙ or_assoc s.called (calls_it t k e) (has (calls_it t k) es))
