-- For some_standing_is_called.
-- What is seen of the answer of a tick's or run's last poll is the end of the call in which its party stood.
use Rattle.std.proofs.Common.{◌≡◌, ◌⊎◌, ◌∙◌, ℕ, zero, suc, ◌+◌, ◌<◌, ◌≤◌, [], ◌∷◌, Bool, true, false, ◌&&◌, cond, eqb, length}
use Rattle.std.proofs.Common.{take, refl, sym, ap, subst, inl, inr, ⊎_elim, arith}
use Rattle.std.specs.Prelude.{Some, count_by, slice_get}
use Rattle.std.{proofs.lemmas.Bool.Decides.nat_tests, proofs.lemmas.List.Sums.sum_by-append}
use Rattle.executor_model.specs.{AwaiterKept.EndsWith, Quiet.begins_call, Quiet.ends_call, Trace.Trace, Trace.has, Weights.same}
use Rattle.executor_model.proofs.OneFuture.Telling.{same-cond}
use Rattle.executor_laws.proofs.Wakeups.StandsTelling.{drops_it, or-none, not-polled, not-dropped, polls_it}
use Rattle.executor_laws.proofs.Wakeups.Watched.{Watched, called_at, is_pending, is_refusal, ended_in, watches, watched_from}
use Rattle.executor_laws.proofs.{Types.Call, Types.Reply, Types.Event, Types.Polled, Types.TickOrRun, Wakeups.Sitting.eq_who}

abbrev ends_one : ℕ → Event → ℕ
ends_one p e = cond (ends_call p e) 1 0

abbrev begins_one : ℕ → Event → ℕ
begins_one p e = cond (begins_call p e) 1 0

count-cons : (test : Event → Bool) (e : Event) (es : Trace) →
    count_by test (e ∷ es) ≡ cond (test e) 1 0 + count_by test es
count-cons test e es = omega (arith, sum_by-append (λ (x : Event). cond (test x) 1 0) (e ∷ []) es)

-- where so many calls of the party are in progress, the one below them ends so
pub record EndsAt (p : ℕ) (r : Reply) (inner : ℕ) (es : Trace) : Type 0 where
  pub place : ℕ
  pub here : slice_get es place ≡ Some (Event.CallEnded p r)
  pub level : count_by (ends_call p) (take place es) ≡ inner + count_by (begins_call p) (take place es)
  pub first : (n : ℕ) → n ≤ place → count_by (ends_call p) (take n es) ≤ inner + count_by (begins_call p) (take n es)

pub record IsOver (r : Reply) (s : Watched) : Type 0 where
  pub asking : s.asking ≡ false
  pub pending : s.pending ≡ is_pending r
  pub refused : s.refused ≡ is_refusal r

-- the poll of party p is open still
record IsOpen (p : ℕ) (s : Watched) : Type 0 where
  asking : s.asking ≡ true
  party : s.party ≡ p

-- what an event that begins no poll and no drop of the tick does to an open poll
data After (t : TickOrRun) (p n : ℕ) (s : Watched) (e : Event) : Type 0 where
  goes : IsOpen p (watches t n e s) → (watches t n e s).inner + ends_one p e ≡ s.inner + begins_one p e →
      ends_one p e ≤ s.inner + begins_one p e → After t p n s e
  over : (r : Reply) → e ≡ Event.CallEnded p r → s.inner ≡ 0 → IsOver r (watches t n e s) → After t p n s e

-- what the poll of party p came to
pub data Outcome (p inner : ℕ) (es : Trace) (s : Watched) : Type 0 where
  unended : s.asking ≡ true → Outcome p inner es s
  ended : (r : Reply) → EndsAt p r inner es → IsOver r s → Outcome p inner es s

eqb-is : (n m : ℕ) → eqb n m ≡ true → m ≡ n
eqb-is n m e = grind (arith, nat_tests)

stays : (t : TickOrRun) (p n : ℕ) (s : Watched) (e : Event) → watches t n e s ≡ s → IsOpen p s → ends_one p e ≡ 0 →
    begins_one p e ≡ 0 → After t p n s e
stays t p n s e q o x y = goes (subst (IsOpen p) (sym q) o) (omega (arith, x, y, ap (λ (w : Watched). w.inner) q))
    (omega (arith, x))

ended-by : (t : TickOrRun) (p q n : ℕ) (r : Reply) (s : Watched) (b : Bool) (i : ℕ) → eqb p q ≡ b → s.inner ≡ i →
    IsOpen p s →
    After t p n s (Event.CallEnded q r)
ended-by t p q n r s b i e z o = by b i e z
  where
    now : (b : Bool) (i : ℕ) → eqb p q ≡ b → s.inner ≡ i →
        watches t n (Event.CallEnded q r) s ≡ cond b (ended_in i r s) s
    now b i e z = ap (λ (c : Bool). cond (c && eqb s.party q) (ended_in s.inner r s) s) o.asking
        ∙ (ap (λ (c : Bool). cond c (ended_in s.inner r s) s) (ap (λ (m : ℕ). eqb m q) o.party ∙ e)
        ∙ ap (λ (m : ℕ). cond b (ended_in m r s) s) z)

    by : (b : Bool) (i : ℕ) → eqb p q ≡ b → s.inner ≡ i → After t p n s (Event.CallEnded q r)
    by true zero e z = over r (ap (λ (m : ℕ). Event.CallEnded m r) (eqb-is p q e)) z
        (subst (IsOver r) (sym (now true zero e z)) (record { asking = refl; pending = refl; refused = refl }))
    by true (suc m) e z =
        goes (subst (IsOpen p) (sym (now true (suc m) e z)) (record { asking = o.asking; party = o.party }))
        (omega (
          arith,
          ap (λ (w : Watched). w.inner) (now true (suc m) e z),
          z,
          ap (λ (c : Bool). let k : ℕ = cond c 1 0 in k) e,
        ))
        (omega (arith, z, ap (λ (c : Bool). let k : ℕ = cond c 1 0 in k) e))
    by false m e z = goes (subst (IsOpen p) (sym (now false m e z)) o)
        (omega (
          arith,
          ap (λ (w : Watched). w.inner) (now false m e z),
          ap (λ (c : Bool). let k : ℕ = cond c 1 0 in k) e,
        ))
        (omega (arith, ap (λ (c : Bool). let k : ℕ = cond c 1 0 in k) e))

begun-by : (t : TickOrRun) (p q n : ℕ) (c : Call) (s : Watched) → IsOpen p s → After t p n s (Event.CallBegun q c)
begun-by t p q n c s o =
    goes (record { asking = o.asking; party = o.party }) (omega (
      arith,
      ap (λ (b : Bool). let k : ℕ = cond b (same s.party q) 0 in k) o.asking,
      ap (λ (m : ℕ). same m q) o.party,
      same-cond p q,
    )) (omega arith)

-- the call of its waker leaves it open
called-open : (t : TickOrRun) (p n : ℕ) (s : Watched) (e : Event) (b : Bool) (k : ℕ) →
    watches t n e s ≡ cond b (called_at k s) s → ends_one p e ≡ 0 → begins_one p e ≡ 0 → IsOpen p s → After t p n s e
called-open t p n s e b k q x y o =
    goes (subst (IsOpen p) (sym q) (by b)) (omega (arith, x, y, ap (λ (w : Watched). w.inner) q, inner b)) (omega
    (arith, x))
  where
    by : (b : Bool) → IsOpen p (cond b (called_at k s) s)
    by true = record { asking = o.asking; party = o.party }
    by false = o

    inner : (b : Bool) → (cond b (called_at k s) s).inner ≡ s.inner
    inner true = refl
    inner false = refl

after-one : (t : TickOrRun) (p n : ℕ) (s : Watched) (e : Event) → polls_it t e ≡ false → drops_it t e ≡ false →
    IsOpen p s →
    After t p n s e
after-one t p n s (Event.TickPolled q u) a b o =
    stays t p n s (Event.TickPolled q u) (not-polled (eq_who t (TickOrRun.Tick u)) n q s a) o
    refl refl
after-one t p n s (Event.TickDropped q u) a b o =
    stays t p n s (Event.TickDropped q u) (not-dropped (eq_who t (TickOrRun.Tick u)) s b) o refl refl
after-one t p n s (Event.RunPolled q u) a b o =
    stays t p n s (Event.RunPolled q u) (not-polled (eq_who t (TickOrRun.Run u)) n q s a) o refl refl
after-one t p n s (Event.RunDropped q u) a b o =
    stays t p n s (Event.RunDropped q u) (not-dropped (eq_who t (TickOrRun.Run u)) s b) o refl refl
after-one t p n s (Event.CallBegun q c) a b o = begun-by t p q n c s o
after-one t p n s (Event.CallEnded q r) a b o = ended-by t p q n r s _ _ refl refl o
after-one t p n s (Event.WakerCalled q (Polled.Tick u) k w) a b o =
    called-open t p n s (Event.WakerCalled q (Polled.Tick u) k w) (eq_who t (TickOrRun.Tick u)) k refl refl refl o
after-one t p n s (Event.WakerCalled q (Polled.Run u) k w) a b o =
    called-open t p n s (Event.WakerCalled q (Polled.Run u) k w) (eq_who t (TickOrRun.Run u)) k refl refl refl o
after-one t p n s (Event.WakerCalled q (Polled.Handle f) k w) a b o = goes o refl (omega arith)
after-one t p n s _ a b o = goes o refl (omega arith)

-- an answered poll stays so

called-over : (r : Reply) (b : Bool) (k : ℕ) (s : Watched) → IsOver r s → IsOver r (cond b (called_at k s) s)
called-over r true k s h = record { asking = h.asking; pending = h.pending; refused = h.refused }
called-over r false k s h = h

over-one : (t : TickOrRun) (n : ℕ) (r : Reply) (e : Event) (s : Watched) → polls_it t e ≡ false → drops_it t e ≡ false →
    IsOver r s →
    IsOver r (watches t n e s)
over-one t n r (Event.TickPolled p u) s a b h =
    subst (IsOver r) (sym (not-polled (eq_who t (TickOrRun.Tick u)) n p s a)) h
over-one t n r (Event.TickDropped p u) s a b h = subst (IsOver r) (sym (not-dropped (eq_who t (TickOrRun.Tick u)) s b)) h
over-one t n r (Event.RunPolled p u) s a b h = subst (IsOver r) (sym (not-polled (eq_who t (TickOrRun.Run u)) n p s a)) h
over-one t n r (Event.RunDropped p u) s a b h = subst (IsOver r) (sym (not-dropped (eq_who t (TickOrRun.Run u)) s b)) h
over-one t n r (Event.CallBegun p c) s a b h = record { asking = h.asking; pending = h.pending; refused = h.refused }
over-one t n r (Event.CallEnded p q) s a b h =
    subst (λ (c : Bool). IsOver r (cond (c && eqb s.party p) (ended_in s.inner q s) s)) (sym h.asking) h
over-one t n r (Event.WakerCalled p (Polled.Tick u) k w) s a b h = called-over r (eq_who t (TickOrRun.Tick u)) k s h
over-one t n r (Event.WakerCalled p (Polled.Run u) k w) s a b h = called-over r (eq_who t (TickOrRun.Run u)) k s h
over-one t n r (Event.WakerCalled p (Polled.Handle f) k w) s a b h = h
over-one t n r _ s a b h = h

over-from : (t : TickOrRun) (n : ℕ) (r : Reply) (s : Watched) (es : Trace) → has (polls_it t) es ≡ false →
    has (drops_it t) es ≡ false →
    IsOver r s → IsOver r (watched_from t n s es)
over-from t n r s [] a b h = h
over-from t n r s (e ∷ es) a b h =
    let x : _ = or-none (polls_it t e) (has (polls_it t) es) a in
    let y : _ = or-none (drops_it t e) (has (drops_it t) es) b in
    over-from t (suc n) r (watches t n e s) es x.1 y.1 (over-one t n r e s x.0 y.0 h)

-- one event more in front
ends-later : (p : ℕ) (r : Reply) (i j : ℕ) (x : Event) (es : Trace) → j + ends_one p x ≡ i + begins_one p x →
    ends_one p x ≤ i + begins_one p x → EndsAt p r j es → EndsAt p r i (x ∷ es)
ends-later p r i j x es q k h = record {
  place = suc h.place;
  here = h.here;
  level =
      omega (arith, h.level, q, count-cons (ends_call p) x (take h.place es), count-cons (begins_call p) x (take h.place es));
  first = first;
}
  where
    first : (n : ℕ) → n ≤ suc h.place →
        count_by (ends_call p) (take n (x ∷ es)) ≤ i + count_by (begins_call p) (take n (x ∷ es))
    first zero l = omega arith
    first (suc n) l = omega (
      arith,
      h.first n (omega (arith, l)),
      q,
      k,
      count-cons (ends_call p) x (take n es),
      count-cons
          (begins_call p) x (take n es),
    )

more : (p i j : ℕ) (x : Event) (es : Trace) (s : Watched) → j + ends_one p x ≡ i + begins_one p x →
    ends_one p x ≤ i + begins_one p x →
    Outcome p j es s → Outcome p i (x ∷ es) s
more p i j x es s q k (unended a) = unended a
more p i j x es s q k (ended r h o) = ended r (ends-later p r i j x es q k h) o

ends-now : (p : ℕ) (r : Reply) (x : Event) (es : Trace) → x ≡ Event.CallEnded p r → EndsAt p r 0 (x ∷ es)
ends-now p r x es e = record { place = 0; here = ap (λ (y : Event). Some y) e; level = refl; first = λ n l. first n l }
  where
    first : (n : ℕ) → n ≤ 0 → count_by (ends_call p) (take n (x ∷ es)) ≤ 0 + count_by (begins_call p) (take n (x ∷ es))
    first zero l = omega arith
    first (suc n) l = absurd (omega (arith, l))

pub outcome-from : (t : TickOrRun) (p n : ℕ) (s : Watched) (es : Trace) → has (polls_it t) es ≡ false →
    has (drops_it t) es ≡ false →
    s.asking ≡ true → s.party ≡ p → Outcome p s.inner es (watched_from t n s es)
outcome-from t p n s [] a b x y = unended x
outcome-from t p n s (e ∷ es) a b x y =
    by (after-one t p n s e (or-none (polls_it t e) (has (polls_it t) es) a).0
    (or-none (drops_it t e) (has (drops_it t) es) b).0 (record { asking = x; party = y }))
    (λ o. outcome-from t p (suc n) (watches t n e s) es (or-none (polls_it t e) (has (polls_it t) es) a).1
    (or-none (drops_it t e) (has (drops_it t) es) b).1 o.asking o.party)
  where
    by : After t p n s e → (IsOpen p (watches t n e s) →
        Outcome p (watches t n e s).inner es (watched_from t (suc n) (watches t n e s) es)) →
        Outcome p s.inner (e ∷ es) (watched_from t (suc n) (watches t n e s) es)
    by (goes o q k) ih = more p s.inner (watches t n e s).inner e es _ q k (ih o)
    by (over r q z o) ih =
        ended r (subst (λ (i : ℕ). EndsAt p r i (e ∷ es)) (sym z) (ends-now p r e es q))
        (over-from t (suc n) r (watches t n e s) es (or-none (polls_it t e) (has (polls_it t) es) a).1
        (or-none (drops_it t e) (has (drops_it t) es) b).1 o)

-- a poll that is open still: so many calls of its party are in progress in it
pub record IsLevel (p inner : ℕ) (es : Trace) (s : Watched) : Type 0 where
  pub party : s.party ≡ p
  pub level : s.inner + count_by (ends_call p) es ≡ inner + count_by (begins_call p) es
  pub first : (n : ℕ) → n ≤ length es →
      count_by (ends_call p) (take n es) ≤ inner + count_by (begins_call p) (take n es)

level-later : (p i j : ℕ) (x : Event) (es : Trace) (s : Watched) → j + ends_one p x ≡ i + begins_one p x →
    ends_one p x ≤ i + begins_one p x → IsLevel p j es s → IsLevel p i (x ∷ es) s
level-later p i j x es s q k h = record {
  party = h.party;
  level = omega (arith, h.level, q, count-cons (ends_call p) x es, count-cons (begins_call p) x es);
  first = first;
}
  where
    first : (n : ℕ) → n ≤ length (x ∷ es) →
        count_by (ends_call p) (take n (x ∷ es)) ≤ i + count_by (begins_call p) (take n (x ∷ es))
    first zero l = omega arith
    first (suc n) l = omega (
      arith,
      h.first n (omega (arith, l)),
      q,
      k,
      count-cons (ends_call p) x (take n es),
      count-cons (begins_call p) x (take n es),
    )

pub level-from : (t : TickOrRun) (p n : ℕ) (s : Watched) (es : Trace) → has (polls_it t) es ≡ false →
    has (drops_it t) es ≡ false → s.asking ≡ true → s.party ≡ p → (watched_from t n s es).asking ≡ true →
    IsLevel p s.inner es (watched_from t n s es)
level-from t p n s [] a b x y z = record { party = y; level = omega arith; first = λ n l. first n l }
  where
    first : (n : ℕ) → n ≤ 0 → count_by (ends_call p) (take n []) ≤ s.inner + count_by (begins_call p) (take n [])
    first zero l = omega arith
    first (suc n) l = absurd (omega (arith, l))
level-from t p n s (e ∷ es) a b x y z =
    by (after-one t p n s e (or-none (polls_it t e) (has (polls_it t) es) a).0
    (or-none (drops_it t e) (has (drops_it t) es) b).0 (record { asking = x; party = y }))
    (λ o. level-from t p (suc n) (watches t n e s) es (or-none (polls_it t e) (has (polls_it t) es) a).1
    (or-none (drops_it t e) (has (drops_it t) es) b).1 o.asking o.party z)
  where
    by : After t p n s e → (IsOpen p (watches t n e s) →
        IsLevel p (watches t n e s).inner es (watched_from t (suc n) (watches t n e s) es)) →
        IsLevel p s.inner (e ∷ es) (watched_from t (suc n) (watches t n e s) es)
    by (goes o q k) ih = level-later p s.inner (watches t n e s).inner e es _ q k (ih o)
    by (over r q w o) ih =
        let c : IsOver r (watched_from t (suc n) (watches t n e s) es) =
        over-from t (suc n) r (watches t n e s) es (or-none (polls_it t e) (has (polls_it t) es) a).1
        (or-none (drops_it t e) (has (drops_it t) es) b).1 o in
        absurd (let no : true ≡ false = sym z ∙ c.asking in cc)

-- as the definition has it

pub ends-with : (p : ℕ) (r : Reply) (es : Trace) → EndsAt p r 0 es → EndsWith p r es
ends-with p r es h =
    record { place = h.place; here = h.here; inner = omega (arith, h.level); first = λ n l. omega (arith, h.first n l) }

take-one : (test : Event → Bool) (x : Event) (k : ℕ) (es : Trace) → slice_get es k ≡ Some x →
    count_by test (take (suc k) es) ≡ count_by test (take k es) + cond (test x) 1 0
take-one test x k [] e = absurd (cc)
take-one test x zero (y ∷ es) e = let q : y ≡ x = cc in omega (
  arith,
  count-cons test y [],
  ap (λ (z : Event). let n : ℕ = cond (test z) 1 0 in n) q,
)
take-one test x (suc k) (y ∷ es) e = omega (
  arith,
  take-one test x k es e,
  count-cons test y (take (suc k) es),
  count-cons test y (take k es),
)

own-ends : (p : ℕ) (r : Reply) → ends_one p (Event.CallEnded p r) ≡ 1
own-ends p r = ap (λ (b : Bool). let n : ℕ = cond b 1 0 in n) (let z : eqb p p ≡ true = grind (arith, nat_tests) in z)

-- what ends first is passed by none that ends later
not-before : (p : ℕ) (r : Reply) (k m : ℕ) (es : Trace) → slice_get es k ≡ Some (Event.CallEnded p r) →
    count_by (ends_call p) (take k es) ≡ count_by (begins_call p) (take k es) →
    ((n : ℕ) → n ≤ m → count_by (ends_call p) (take n es) ≤ count_by (begins_call p) (take n es)) → m ≤ k
not-before p r k m es e q f = ⊎_elim
    (λ (x : m ≤ k). x)
    (λ (x : k < m). absurd (omega (
      arith,
      f (suc k) (omega (arith, x)),
      q,
      take-one (ends_call p) (Event.CallEnded p r) k es e,
      take-one (begins_call p) (Event.CallEnded p r) k es e,
      own-ends p r,
    )))
    (decide m k)
  where
    decide : (m k : ℕ) → (m ≤ k) ⊎ (k < m)
    decide zero k = inl (omega arith)
    decide (suc m) zero = inr (omega arith)
    decide (suc m) (suc k) = ⊎_elim (λ (x : m ≤ k). inl (omega (arith, x))) (λ (x : k < m). inr (omega (arith, x)))
        (decide m k)

pub one-end : (p : ℕ) (r q : Reply) (es : Trace) → EndsWith p r es → EndsWith p q es → r ≡ q
one-end p r q es a b =
    let x : b.place ≤ a.place = not-before p r a.place b.place es a.here a.inner b.first in
    let y : a.place ≤ b.place = not-before p q b.place a.place es b.here b.inner a.first in
    let z : a.place ≡ b.place = omega (arith, x, y) in
    let e : Some (Event.CallEnded p r) ≡ Some (Event.CallEnded p q) = sym a.here ∙ (ap (slice_get es) z ∙ b.here) in cc
