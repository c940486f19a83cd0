-- For awaiters_are_kept.
-- What is heard of a future and of the last poll of its handle is what the definitions over its trace say.
use Rattle.std.proofs.Common.{◌≡◌, ◌≢◌, ◌⊎◌, ℕ, zero, suc, ◌+◌, ◌≤◌, [], ◌∷◌, drop, Bool, true, false, ◌&&◌, ◌||◌, cond, eqb}
use Rattle.std.proofs.Common.{take, refl, sym, ap, ◌∙◌, subst, inl, inr, ⊎_elim, arith}
use Rattle.std.specs.Prelude.{Some, count_by, slice_get}
use Rattle.std.{proofs.lemmas.Bool.Decides.nat_tests, proofs.lemmas.List.Sums.sum_by-append, proofs.Math.Bool.or_assoc}
use Rattle.executor_model.specs.declared.event.Answer.TheVariants.{Pending, Ready}
use Rattle.executor_model.specs.Trace.{Trace, takes_handle, has, is_dropped}
use Rattle.executor_model.specs.AwaiterKept.{is_handle_poll, calls_waker, since, EndsWith}
use Rattle.executor_model.specs.Sound.{Phase, passes, phase_from, phase, after_begun, after_answered, after_dropped}
use Rattle.executor_model.specs.Sound.Phase.{Fresh, Polling, Over, Broken}
use Rattle.executor_model.specs.{Quiet.begins_call, Quiet.ends_call, Weights.same}
use Rattle.executor_model.proofs.Awaiters.Awaited.{Heard, unheard, is_pending, ended_in, hears, heard_from, heard}
use Rattle.executor_model.proofs.{Types.Call, Types.Reply, Types.Answer, Types.Event, Types.Polled, OneFuture.Telling.same-cond}

or-false : (b : Bool) → b ≡ (b || false)
or-false true = refl
or-false false = refl

or-cond : (b c : Bool) → cond b true c ≡ (c || b)
or-cond true true = refl
or-cond true false = refl
or-cond false true = refl
or-cond false false = refl

-- a field that no end of a call changes
ended-same : {X : Type 0} (field : Heard → X) →
    ((r : Reply) (s : Heard) → field (record s { asking = false; pending = is_pending r }) ≡ field s) →
    ((n : ℕ) (s : Heard) → field (record s { inner = n }) ≡ field s) → (b : Bool) (m : ℕ) (r : Reply) (s : Heard) →
    field (cond b (ended_in m r s) s) ≡ field s
ended-same field k l true zero r s = k r s
ended-same field k l true (suc n) r s = l n s
ended-same field k l false m r s = refl

-- the handle was taken by value

parted-polled : (b : Bool) (n p : ℕ) (s : Heard) →
    (cond b (record s { poll = n; party = p; asking = true; inner = 0; pending = false; called = false }) s).parted
    ≡ s.parted
parted-polled true n p s = refl
parted-polled false n p s = refl

parted-one : (g n : ℕ) (e : Event) (s : Heard) → (hears g n e s).parted ≡ (s.parted || takes_handle g e)
parted-one g n (Event.HandlePolled p f) s = parted-polled (eqb g f) n p s ∙ or-false s.parted
parted-one g n (Event.CallBegun p c) s = or-cond (takes_handle g (Event.CallBegun p c)) s.parted
parted-one g n (Event.CallEnded p r) s = ended-same (λ (t : Heard). t.parted) (λ r s. refl) (λ n s. refl) _ s.inner r s
    ∙ or-false s.parted
parted-one g n (Event.WakerCalled p (Polled.Handle f) k a) s = or-false s.parted
parted-one g n (Event.Dropped p f) s = or-false s.parted
parted-one g n _ s = or-false s.parted

parted-from : (g n : ℕ) (s : Heard) (es : Trace) → (heard_from g n s es).parted ≡ (s.parted || has (takes_handle g) es)
parted-from g n s [] = or-false s.parted
parted-from g n s (e ∷ es) =
    parted-from g (suc n) (hears g n e s) es
    ∙ (ap (λ (b : Bool). b || has (takes_handle g) es) (parted-one g n e s) ∙ or_assoc s.parted (takes_handle g e)
    (has (takes_handle g) es))

pub parted-has : (g : ℕ) (es : Trace) → (heard g es).parted ≡ has (takes_handle g) es
unfolding heard
parted-has g es = parted-from g 0 unheard es

-- the future was dropped

dropped-polled : (b : Bool) (n p : ℕ) (s : Heard) →
    (cond b (record s { poll = n; party = p; asking = true; inner = 0; pending = false; called = false }) s).dropped
    ≡ s.dropped
dropped-polled true n p s = refl
dropped-polled false n p s = refl

dropped-one : (g n : ℕ) (e : Event) (s : Heard) → (hears g n e s).dropped ≡ (s.dropped || is_dropped g e)
dropped-one g n (Event.HandlePolled p f) s = dropped-polled (eqb g f) n p s ∙ or-false s.dropped
dropped-one g n (Event.CallBegun p c) s = or-false s.dropped
dropped-one g n (Event.CallEnded p r) s = ended-same (λ (t : Heard). t.dropped) (λ r s. refl) (λ n s. refl) _ s.inner r
    s ∙ or-false s.dropped
dropped-one g n (Event.WakerCalled p (Polled.Handle f) k a) s = or-false s.dropped
dropped-one g n (Event.Dropped p f) s = or-cond (eqb g f) s.dropped
dropped-one g n _ s = or-false s.dropped

dropped-from : (g n : ℕ) (s : Heard) (es : Trace) → (heard_from g n s es).dropped ≡ (s.dropped || has (is_dropped g) es)
dropped-from g n s [] = or-false s.dropped
dropped-from g n s (e ∷ es) =
    dropped-from g (suc n) (hears g n e s) es
    ∙ (ap (λ (b : Bool). b || has (is_dropped g) es) (dropped-one g n e s) ∙ or_assoc s.dropped (is_dropped g e)
    (has (is_dropped g) es))

pub dropped-has : (g : ℕ) (es : Trace) → (heard g es).dropped ≡ has (is_dropped g) es
unfolding heard
dropped-has g es = dropped-from g 0 unheard es

-- and then it is over, or the trace isn't lawful

abbrev IsPast : Phase → Type 0
IsPast s = (s ≡ Over) ⊎ (s ≡ Broken)

past-begun : (b : Bool) (s : Phase) → IsPast s → IsPast (cond b (after_begun s) s)
past-begun false s h = h
past-begun true Over h = inr refl
past-begun true Broken h = inr refl
past-begun true Fresh (inl h) = absurd (cc)
past-begun true Fresh (inr h) = absurd (cc)
past-begun true Polling (inl h) = absurd (cc)
past-begun true Polling (inr h) = absurd (cc)

past-answered : (b : Bool) (a : Answer) (s : Phase) → IsPast s → IsPast (cond b (after_answered a s) s)
past-answered false a s h = h
past-answered true Ready Over h = inr refl
past-answered true Pending Over h = inr refl
past-answered true Ready Broken h = inr refl
past-answered true Pending Broken h = inr refl
past-answered true a Fresh (inl h) = absurd (cc)
past-answered true a Fresh (inr h) = absurd (cc)
past-answered true a Polling (inl h) = absurd (cc)
past-answered true a Polling (inr h) = absurd (cc)

past-dropped : (b : Bool) (s : Phase) → IsPast s → IsPast (cond b (after_dropped s) s)
past-dropped false s h = h
past-dropped true Over h = inl refl
past-dropped true Broken h = inr refl
past-dropped true Fresh h = inl refl
past-dropped true Polling h = inr refl

now-dropped : (b : Bool) (s : Phase) → b ≡ true → IsPast (cond b (after_dropped s) s)
now-dropped true Over h = inl refl
now-dropped true Broken h = inr refl
now-dropped true Fresh h = inl refl
now-dropped true Polling h = inr refl
now-dropped false s h = absurd (cc)

past-one : (g : ℕ) (e : Event) (s : Phase) → IsPast s → IsPast (passes g e s)
past-one g (Event.PollBegun p f) s h = past-begun (eqb g f) s h
past-one g (Event.Answered p f a) s h = past-answered (eqb g f) a s h
past-one g (Event.Dropped p f) s h = past-dropped (eqb g f) s h
past-one g _ s h = h

drops-one : (g : ℕ) (e : Event) (s : Phase) → is_dropped g e ≡ true → IsPast (passes g e s)
drops-one g (Event.Dropped p f) s h = now-dropped (eqb g f) s h
drops-one g _ s h = absurd (cc)

past-from : (g : ℕ) (s : Phase) (es : Trace) → IsPast s → IsPast (phase_from g s es)
past-from g s [] h = h
past-from g s (e ∷ es) h = past-from g (passes g e s) es (past-one g e s h)

phase-dropped-from : (g : ℕ) (s : Phase) (es : Trace) → has (is_dropped g) es ≡ true → IsPast (phase_from g s es)
phase-dropped-from g s [] h = absurd (cc)
phase-dropped-from g s (e ∷ es) h = go (is_dropped g e) refl h (phase-dropped-from g (passes g e s) es)
  where
    go : (b : Bool) → is_dropped g e ≡ b → (b || has (is_dropped g) es) ≡ true →
        (has (is_dropped g) es ≡ true → IsPast (phase_from g (passes g e s) es)) →
        IsPast (phase_from g (passes g e s) es)
    go true q h ih = past-from g (passes g e s) es (drops-one g e s q)
    go false q h ih = ih h

pub over-dropped : (g : ℕ) (es : Trace) → (heard g es).dropped ≡ true → phase g es ≢ Broken → phase g es ≡ Over
over-dropped g es d n = ⊎_elim (λ (h : phase g es ≡ Over). h) (λ (h : phase g es ≡ Broken). absurd (n h))
    (phase-dropped-from g Fresh es (sym (dropped-has g es) ∙ d))

-- the last poll of the handle

eqb-self : (n : ℕ) → eqb n n ≡ true
eqb-self n = grind (arith, nat_tests)

abbrev pub poll_begun : ℕ → ℕ → Heard → Heard
poll_begun n p s = record s { poll = n; party = p; asking = true; inner = 0; pending = false; called = false }

hears-own : (g n p f : ℕ) (s : Heard) → f ≡ g → hears g n (Event.HandlePolled p f) s ≡ poll_begun n p s
hears-own g n p f s e = ap (λ (b : Bool). cond b (poll_begun n p s) s) (ap (λ (m : ℕ). eqb g m) e ∙ eqb-self g)

-- what was heard where it begins
pub record Begun (g poll party : ℕ) (es : Trace) : Type 0 where
  pub before : Heard
  pub all : heard g es ≡ heard_from g (suc poll) (poll_begun poll party before) (since poll es)

begun-from : (g n k p : ℕ) (s : Heard) (es : Trace) → slice_get es k ≡ Some (Event.HandlePolled p g) →
    (before : Heard) × (heard_from g n s es ≡ heard_from g (suc (n + k)) (poll_begun (n + k) p before)
    (drop (suc k) es))
begun-from g n k p s [] e = absurd (cc)
begun-from g n zero p s (x ∷ es) e =
    let q : x ≡ Event.HandlePolled p g = cc in (
      s,
      ap (λ (y : Event). heard_from g (suc n) (hears g n y s) es) q
          ∙ (ap (λ (t : Heard). heard_from g (suc n) t es) (hears-own g n p g s refl)
          ∙ ap (λ (m : ℕ). heard_from g (suc m) (poll_begun m p s) es) (let z : n ≡ n + zero = omega arith in z)),
    )
begun-from g n (suc k) p s (x ∷ es) e =
    let ih : _ = begun-from g (suc n) k p (hears g n x s) es e in (
      ih.0,
      ih.1 ∙ ap (λ (m : ℕ). heard_from g (suc m) (poll_begun m p ih.0) (drop (suc k) es))
          (let z : suc n + k ≡ n + suc k = omega arith in z),
    )

pub begun-at : (g k p : ℕ) (es : Trace) → slice_get es k ≡ Some (Event.HandlePolled p g) → Begun g k p es
unfolding heard
begun-at g k p es e =
    let x : _ = begun-from g 0 k p unheard es e in
    record {
      before = x.0;
      all =
          x.1 ∙ (ap (λ (m : ℕ). heard_from g (suc m) (poll_begun m p x.0) (drop (suc k) es))
          (let z : 0 + k ≡ k = omega arith in z) ∙ ap (λ (m : ℕ). heard_from g (suc k) (poll_begun k p x.0) (drop m es))
          (let z : suc k ≡ k + 1 = omega arith in z));
    }

-- an event that begins no poll of the handle

or-none : (a b : Bool) → (a || b) ≡ false → (a ≡ false) × (b ≡ false)
or-none false false e = (refl, refl)
or-none true b e = absurd (cc)
or-none false true e = absurd (cc)

not-polled : (b : Bool) (n p : ℕ) (s : Heard) → b ≡ false → cond b (poll_begun n p s) s ≡ s
not-polled false n p s e = refl
not-polled true n p s e = absurd (cc)

poll-one : (g n : ℕ) (e : Event) (s : Heard) → is_handle_poll g e ≡ false → (hears g n e s).poll ≡ s.poll
poll-one g n (Event.HandlePolled p f) s h = ap (λ (t : Heard). t.poll) (not-polled (eqb g f) n p s h)
poll-one g n (Event.CallEnded p r) s h = ended-same (λ (t : Heard). t.poll) (λ r s. refl) (λ n s. refl) _ s.inner r s
poll-one g n (Event.WakerCalled p (Polled.Handle f) k a) s h = refl
poll-one g n _ s h = refl

pub poll-from : (g n : ℕ) (s : Heard) (es : Trace) → has (is_handle_poll g) es ≡ false →
    (heard_from g n s es).poll ≡ s.poll
poll-from g n s [] h = refl
poll-from g n s (e ∷ es) h = let x : _ = or-none (is_handle_poll g e) (has (is_handle_poll g) es) h in
    poll-from g (suc n) (hears g n e s) es x.1 ∙ poll-one g n e s x.0

-- its waker was called

or-conds : (a b c : Bool) → cond a (cond b true c) c ≡ (c || (a && b))
or-conds true true true = refl
or-conds true true false = refl
or-conds true false true = refl
or-conds true false false = refl
or-conds false b true = refl
or-conds false b false = refl

called-one : (g n : ℕ) (e : Event) (s : Heard) → is_handle_poll g e ≡ false →
    (hears g n e s).called ≡ (s.called || calls_waker g s.poll e)
called-one g n (Event.HandlePolled p f) s h = ap (λ (t : Heard). t.called) (not-polled (eqb g f) n p s h)
    ∙ or-false s.called
called-one g n (Event.CallEnded p r) s h = ended-same (λ (t : Heard). t.called) (λ r s. refl) (λ n s. refl) _ s.inner r
    s ∙ or-false s.called
called-one g n (Event.WakerCalled p (Polled.Handle f) k a) s h = or-conds (eqb g f) (eqb s.poll k) s.called
called-one g n _ s h = or-false s.called

pub called-from : (g n k : ℕ) (s : Heard) (es : Trace) → s.poll ≡ k → has (is_handle_poll g) es ≡ false →
    (heard_from g n s es).called ≡ (s.called || has (calls_waker g k) es)
called-from g n k s [] q h = or-false s.called
called-from g n k s (e ∷ es) q h =
    let x : _ = or-none (is_handle_poll g e) (has (is_handle_poll g) es) h in
    called-from g (suc n) k (hears g n e s) es (poll-one g n e s x.0 ∙ q) x.1
    ∙ (ap (λ (b : Bool). b || has (calls_waker g k) es)
    (called-one g n e s x.0 ∙ ap (λ (m : ℕ). s.called || calls_waker g m e) q)
    ∙ or_assoc s.called (calls_waker g k e) (has (calls_waker g k) es))

-- the end of its call

count-cons : (test : Event → Bool) (e : Event) (es : Trace) →
    count_by test (e ∷ es) ≡ cond (test e) 1 0 + count_by test es
count-cons test e es = omega (arith, sum_by-append (λ (x : Event). cond (test x) 1 0) (e ∷ []) es)

-- an answered poll stays so

abbrev IsAnsweredPending : Heard → Type 0
IsAnsweredPending s = (s.asking ≡ false) × (s.pending ≡ true)

stays-ended : (b : Bool) (r : Reply) (s : Heard) → IsAnsweredPending s →
    IsAnsweredPending (cond (s.asking && b) (ended_in s.inner r s) s)
stays-ended b r s h = subst (λ (a : Bool). IsAnsweredPending (cond (a && b) (ended_in s.inner r s) s)) (sym h.0) h

stays-one : (g n : ℕ) (e : Event) (s : Heard) → is_handle_poll g e ≡ false → IsAnsweredPending s →
    IsAnsweredPending (hears g n e s)
stays-one g n (Event.HandlePolled p f) s k h = subst IsAnsweredPending (sym (not-polled (eqb g f) n p s k)) h
stays-one g n (Event.CallEnded p r) s k h = stays-ended (eqb s.party p) r s h
stays-one g n (Event.WakerCalled p (Polled.Handle f) x a) s k h = h
stays-one g n _ s k h = h

stays-from : (g n : ℕ) (s : Heard) (es : Trace) → has (is_handle_poll g) es ≡ false → IsAnsweredPending s →
    IsAnsweredPending (heard_from g n s es)
stays-from g n s [] k h = h
stays-from g n s (e ∷ es) k h = let x : _ = or-none (is_handle_poll g e) (has (is_handle_poll g) es) k in
    stays-from g (suc n) (hears g n e s) es x.1 (stays-one g n e s x.0 h)

-- an open poll stays so, and the calls inside of it are counted

abbrev pub ends_one : ℕ → Event → ℕ
ends_one p e = cond (ends_call p e) 1 0

abbrev pub begins_one : ℕ → Event → ℕ
begins_one p e = cond (begins_call p e) 1 0

pub record IsInside (p : ℕ) (s t : Heard) (e : Event) : Type 0 where
  pub asking : t.asking ≡ true
  pub party : t.party ≡ p
  pub inner : t.inner + ends_one p e ≡ s.inner + begins_one p e

inside-same : (p : ℕ) (s : Heard) (e : Event) → s.asking ≡ true → s.party ≡ p → ends_one p e ≡ 0 → begins_one p e ≡ 0 →
    IsInside p s s e
inside-same p s e a q x y = record { asking = a; party = q; inner = omega (arith, x, y) }

inside-ended : (b : Bool) (m p q : ℕ) (r : Reply) (s : Heard) → eqb p q ≡ b → s.inner ≡ m → s.asking ≡ true →
    s.party ≡ p → cond b 1 0 ≤ m →
    IsInside p s (cond (s.asking && eqb s.party q) (ended_in s.inner r s) s) (Event.CallEnded q r)
inside-ended true (suc m) p q r s e i a t h =
    subst (λ (u : Heard). IsInside p s u (Event.CallEnded q r))
    (sym (ap (λ (c : Bool). cond (c && eqb s.party q) (ended_in s.inner r s) s) a
    ∙ (ap (λ (c : Bool). cond c (ended_in s.inner r s) s) (ap (λ (n : ℕ). eqb n q) t ∙ e)
    ∙ ap (λ (n : ℕ). ended_in n r s) i)))
    record { asking = a; party = t; inner = omega (arith, i, ap (λ (c : Bool). let k : ℕ = cond c 1 0 in k) e) }
inside-ended true zero p q r s e i a t h = absurd (omega (arith, h))
inside-ended false m p q r s e i a t h =
    subst (λ (u : Heard). IsInside p s u (Event.CallEnded q r))
    (sym (ap (λ (c : Bool). cond (c && eqb s.party q) (ended_in s.inner r s) s) a
    ∙ ap (λ (c : Bool). cond c (ended_in s.inner r s) s) (ap (λ (n : ℕ). eqb n q) t ∙ e)))
    record { asking = a; party = t; inner = omega (arith, ap (λ (c : Bool). let k : ℕ = cond c 1 0 in k) e) }

inside-begun : (g n p q : ℕ) (c : Call) (s : Heard) → s.asking ≡ true → s.party ≡ p →
    IsInside p s (hears g n (Event.CallBegun q c) s) (Event.CallBegun q c)
inside-begun g n p q c s a t =
    record {
      asking = a;
      party = t;
      inner =
          omega (
            arith,
            ap (λ (b : Bool). let k : ℕ = cond b (same s.party q) 0 in k) a,
            ap (λ (m : ℕ). same m q) t,
            same-cond p q,
          );
    }

inside-one : (g n p : ℕ) (e : Event) (s : Heard) → is_handle_poll g e ≡ false → s.asking ≡ true → s.party ≡ p →
    ends_one p e ≤ s.inner → IsInside p s (hears g n e s) e
inside-one g n p (Event.HandlePolled q f) s k a t h = subst (λ (u : Heard). IsInside p s u (Event.HandlePolled q f))
    (sym (not-polled (eqb g f) n q s k)) (inside-same p s (Event.HandlePolled q f) a t refl refl)
inside-one g n p (Event.CallEnded q r) s k a t h = inside-ended _ _ p q r s refl refl a t h
inside-one g n p (Event.CallBegun q c) s k a t h = inside-begun g n p q c s a t
inside-one g n p (Event.WakerCalled q (Polled.Handle f) x w) s k a t h = record { asking = a; party = t; inner = refl }
inside-one g n p (Event.Dropped q f) s k a t h = record { asking = a; party = t; inner = refl }
inside-one g n p _ s k a t h = record { asking = a; party = t; inner = refl }

ends-own : (p : ℕ) (s : Heard) → s.asking ≡ true → s.party ≡ p → s.inner ≡ 0 →
    IsAnsweredPending (cond (s.asking && eqb s.party p) (ended_in s.inner Reply.Pending s) s)
ends-own p s a t i = subst IsAnsweredPending
    (sym (ap (λ (c : Bool). cond (c && eqb s.party p) (ended_in s.inner Reply.Pending s) s) a
    ∙ (ap (λ (c : Bool). cond c (ended_in s.inner Reply.Pending s) s) (ap (λ (n : ℕ). eqb n p) t ∙ eqb-self p)
    ∙ ap (λ (n : ℕ). ended_in n Reply.Pending s) i))) (refl, refl)

pending-from : (g n p m : ℕ) (s : Heard) (es : Trace) → s.asking ≡ true → s.party ≡ p →
    has (is_handle_poll g) es ≡ false → slice_get es m ≡ Some (Event.CallEnded p Reply.Pending) →
    ((j : ℕ) → j ≤ m → count_by (ends_call p) (take j es) ≤ s.inner + count_by (begins_call p) (take j es)) →
    count_by (ends_call p) (take m es) ≡ s.inner + count_by (begins_call p) (take m es) →
    (heard_from g n s es).pending ≡ true
pending-from g n p m s [] a t k e first inner = absurd (cc)
pending-from g n p zero s (x ∷ es) a t k e first inner =
    let q : x ≡ Event.CallEnded p Reply.Pending = cc in
    let z : s.inner ≡ 0 = omega (arith, inner) in
    let o : _ = or-none (is_handle_poll g x) (has (is_handle_poll g) es) k in
    (stays-from g (suc n) (hears g n x s) es o.1
    (subst (λ (y : Event). IsAnsweredPending (hears g n y s)) (sym q) (ends-own p s a t z))).1
pending-from g n p (suc m) s (x ∷ es) a t k e first inner =
    let o : _ = or-none (is_handle_poll g x) (has (is_handle_poll g) es) k in
    let one : ends_one p x ≤ s.inner + begins_one p x =
    omega (arith, first 1 (omega arith), count-cons (ends_call p) x [], count-cons (begins_call p) x []) in
    let i : IsInside p s (hears g n x s) x = inside-one g n p x s o.0 a t (never-both p x s.inner one) in
    pending-from g (suc n) p m (hears g n x s) es i.asking i.party o.1 e
    (λ j l. omega (
      arith,
      first (suc j) (omega (arith, l)),
      count-cons (ends_call p) x (take j es),
      count-cons (begins_call p) x (take j es),
      i.inner,
    ))
    (omega (arith, inner, count-cons (ends_call p) x (take m es), count-cons (begins_call p) x (take m es), i.inner))
  where
    never-both : (p : ℕ) (x : Event) (n : ℕ) → ends_one p x ≤ n + begins_one p x → ends_one p x ≤ n
    never-both p (Event.CallEnded q r) n h = omega (arith, h)
    never-both p (Event.CallBegun q c) n h = omega arith
    never-both p _ n h = omega (arith, h)

pub pending-at : (g n p k : ℕ) (s : Heard) (es : Trace) → has (is_handle_poll g) es ≡ false →
    EndsWith p Reply.Pending es →
    (heard_from g n (record s { poll = k; party = p; asking = true; inner = 0; pending = false; called = false })
    es).pending ≡ true
pending-at g n p k s es h w =
    pending-from g n p w.place (poll_begun k p s) es refl refl h w.here (λ j l. omega (arith, w.first j l))
    (omega (arith, w.inner))
