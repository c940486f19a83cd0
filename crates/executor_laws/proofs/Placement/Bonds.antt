-- For due_futures_stand_with_their_keepers.
-- What a trace tells of the last time that a future came into a run's own queue, read from left to right.
use Rattle.std.proofs.Common.{◌≡◌, ◌∙◌, ℕ, zero, suc, ◌+◌, ◌<◌, [], ◌∷◌, ◌++◌, length, drop, Bool, true, false, ◌||◌, eqb, cond}
use Rattle.std.proofs.Common.{refl, sym, ap, subst, arith}
use Rattle.std.specs.Prelude.{Option, Some, slice_get}
use Rattle.std.{proofs.lemmas.Bool.Decides.nat_tests, proofs.lemmas.List.length-append}
use Rattle.executor_laws.proofs.Types.{Event}
use Rattle.executor_model.specs.{AwaiterKept.since, Keeper.is_kept, Keeper.is_run_drop, Trace.Trace, Trace.has, Trace.is_poll}
use Rattle.executor_model.proofs.{Steps.Pushes.any-push, Polls.Dueness.by_last}
use Rattle.executor_laws.proofs.Placement.Opens.{get-old, get-new, since-old, since-new}

pub record Bond : Type 0 where
  -- it came there, and it wasn't polled nor the run dropped since; which run, by which party, and at which place
  pub kept : Bool
  pub run : ℕ
  pub party : ℕ
  pub place : ℕ

abbrev pub unbound : Bond
unbound = record { kept = false; run = 0; party = 0; place = 0 }

-- the event at place n
abbrev pub binds : ℕ → ℕ → Event → Bond → Bond
binds f n (Event.Kept p g r) s = cond (eqb f g) (record { kept = true; run = r; party = p; place = n }) s
binds f n (Event.PollBegun p g) s = cond (eqb f g) (record s { kept = false }) s
binds f n (Event.RunDropped p q) s = cond (eqb s.run q) (record s { kept = false }) s
binds f n _ s = s

abbrev pub bond_from : ℕ → ℕ → Bond → Trace → Bond
bond_from f n s [] = s
bond_from f n s (e ∷ es) = bond_from f (suc n) (binds f n e s) es

unfoldable pub bond : ℕ → Trace → Bond
bond f es = bond_from f 0 unbound es

bond_from-push : (f n : ℕ) (s : Bond) (es : Trace) (e : Event) →
    bond_from f n s (es ++ e ∷ []) ≡ binds f (n + length es) e (bond_from f n s es)
bond_from-push f n s [] e = ap (λ (m : ℕ). binds f m e s) (let z : n ≡ n + 0 = omega arith in z)
bond_from-push f n s (x ∷ es) e = bond_from-push f (suc n) (binds f n x s) es e
    ∙ ap (λ (m : ℕ). binds f m e (bond_from f (suc n) (binds f n x s) es))
    (let z : suc n + length es ≡ n + suc (length es) = omega arith in z)

pub bond-push : (f : ℕ) (es : Trace) (e : Event) → bond f (es ++ e ∷ []) ≡ binds f (length es) e (bond f es)
unfolding bond
bond-push f es e = bond_from-push f 0 unbound es e
    ∙ ap (λ (m : ℕ). binds f m e (bond_from f 0 unbound es)) (let z : 0 + length es ≡ length es = omega arith in z)

pub bond-none : (f : ℕ) → bond f [] ≡ unbound
unfolding bond
bond-none f = refl

-- so the trace says

pub record Reads (f : ℕ) (es : Trace) (s : Bond) : Type 0 where
  pub within : s.kept ≡ true → s.place < length es
  pub kept : s.kept ≡ true → slice_get es s.place ≡ Some (Event.Kept s.party f s.run)
  pub last : s.kept ≡ true → has (is_kept f) (since s.place es) ≡ false
  pub unpolled : s.kept ≡ true → has (is_poll f) (since s.place es) ≡ false
  pub undropped : s.kept ≡ true → has (is_run_drop s.run) (since s.place es) ≡ false

neither : (a b : Bool) → a ≡ false → b ≡ false → (a || b) ≡ false
neither a b x y = rw (x, y) refl

none-later : (t : Event → Bool) (k : ℕ) (es : Trace) (e : Event) → k < length es → has t (since k es) ≡ false →
    t e ≡ false → has t (since k (es ++ e ∷ [])) ≡ false
none-later t k es e l h z = ap (has t) (since-old es k e l)
    ∙ (any-push t t (since k es) e ∙ neither (has t (since k es)) (t e) h z)

reads-more : (f : ℕ) (es : Trace) (e : Event) (s : Bond) → is_kept f e ≡ false → is_poll f e ≡ false →
    is_run_drop s.run e ≡ false → Reads f es s → Reads f (es ++ e ∷ []) s
reads-more f es e s a b c h = record {
  within = λ q. omega (arith, h.within q, length-append es (e ∷ []));
  kept = λ q. get-old es s.place e (h.within q) ∙ h.kept q;
  last = λ q. none-later (is_kept f) s.place es e (h.within q) (h.last q) a;
  unpolled = λ q. none-later (is_poll f) s.place es e (h.within q) (h.unpolled q) b;
  undropped = λ q. none-later (is_run_drop s.run) s.place es e (h.within q) (h.undropped q) c;
}

reads-loose : (f : ℕ) (es : Trace) (s : Bond) → s.kept ≡ false → Reads f es s
reads-loose f es s e = record {
  within = λ q. absurd (no q);
  kept = λ q. absurd (no q);
  last = λ q. absurd (no q);
  unpolled = λ q. absurd (no q);
  undropped = λ q. absurd (no q);
}
  where
    no : s.kept ≡ true → ⊥
    no q = let z : true ≡ false = sym q ∙ e in cc

reads-kept : (f : ℕ) (es : Trace) (p g r : ℕ) → eqb f g ≡ true →
    Reads f (es ++ Event.Kept p g r ∷ []) (record { kept = true; run = r; party = p; place = length es })
reads-kept f es p g r e =
    let x = Event.Kept p g r in
    let same_future : g ≡ f = grind (arith, nat_tests) in
    let none : (t : Event → Bool) → has t (since (length es) (es ++ x ∷ [])) ≡ false =
    λ t. ap (has t) (since-new es x) in record {
      within = λ q. omega (arith, length-append es (x ∷ []));
      kept = λ q. get-new es x ∙ ap (λ (n : ℕ). let o : Option Event = Some (Event.Kept p n r) in o) same_future;
      last = λ q. none (is_kept f);
      unpolled = λ q. none (is_poll f);
      undropped = λ q. none (is_run_drop r);
    }

reads-push : (f : ℕ) (es : Trace) (e : Event) (s : Bond) → Reads f es s →
    Reads f (es ++ e ∷ []) (binds f (length es) e s)
reads-push f es (Event.Kept p g r) s h = by (eqb f g) refl
  where
    by : (b : Bool) → eqb f g ≡ b → Reads f (es ++ Event.Kept p g r ∷ [])
        (cond b (record { kept = true; run = r; party = p; place = length es }) s)
    by true z = reads-kept f es p g r z
    by false z = reads-more f es (Event.Kept p g r) s z refl refl h
reads-push f es (Event.PollBegun p g) s h = by (eqb f g) refl
  where
    by : (b : Bool) → eqb f g ≡ b → Reads f (es ++ Event.PollBegun p g ∷ []) (cond b (record s { kept = false }) s)
    by true z = reads-loose f _ (record s { kept = false }) refl
    by false z = reads-more f es (Event.PollBegun p g) s refl z refl h
reads-push f es (Event.RunDropped p q) s h = by (eqb s.run q) refl
  where
    by : (b : Bool) → eqb s.run q ≡ b → Reads f (es ++ Event.RunDropped p q ∷ []) (cond b (record s { kept = false }) s)
    by true z = reads-loose f _ (record s { kept = false }) refl
    by false z = reads-more f es (Event.RunDropped p q) s refl refl z h
reads-push f es (Event.CallBegun p c) s h = reads-more f es _ s refl refl refl h
reads-push f es (Event.CallEnded p c) s h = reads-more f es _ s refl refl refl h
reads-push f es (Event.Accepted p c) s h = reads-more f es _ s refl refl refl h
reads-push f es (Event.Answered p c a) s h = reads-more f es _ s refl refl refl h
reads-push f es (Event.Woken p c) s h = reads-more f es _ s refl refl refl h
reads-push f es (Event.Cancelled p c) s h = reads-more f es _ s refl refl refl h
reads-push f es (Event.Detached p c) s h = reads-more f es _ s refl refl refl h
reads-push f es (Event.LastWaker p c) s h = reads-more f es _ s refl refl refl h
reads-push f es (Event.Leaked p c) s h = reads-more f es _ s refl refl refl h
reads-push f es (Event.Dropped p c) s h = reads-more f es _ s refl refl refl h
reads-push f es (Event.OutputDropped p c) s h = reads-more f es _ s refl refl refl h
reads-push f es (Event.OutputGiven p c) s h = reads-more f es _ s refl refl refl h
reads-push f es (Event.HandlePolled p c) s h = reads-more f es _ s refl refl refl h
reads-push f es (Event.TickPolled p c) s h = reads-more f es _ s refl refl refl h
reads-push f es (Event.TickDropped p c) s h = reads-more f es _ s refl refl refl h
reads-push f es (Event.RunPolled p c) s h = reads-more f es _ s refl refl refl h
reads-push f es (Event.WakerCalled p o k a) s h = reads-more f es _ s refl refl refl h
reads-push f es (Event.Looked p m) s h = reads-more f es _ s refl refl refl h
reads-push f es (Event.DropBegun p) s h = reads-more f es _ s refl refl refl h
reads-push f es (Event.DropEnded p) s h = reads-more f es _ s refl refl refl h

pub reads : (f : ℕ) (es : Trace) → Reads f es (bond f es)
reads f es = by_last (λ (t : Trace). Reads f t (bond f t))
    (reads-loose f [] (bond f []) (ap (λ (b : Bond). b.kept) (bond-none f)))
    (λ xs e h. subst (Reads f (xs ++ e ∷ [])) (sym (bond-push f xs e)) (reads-push f xs e (bond f xs) h)) es

-- and what the trace says is read

bond-still : (f n : ℕ) (s : Bond) (es : Trace) → has (is_kept f) es ≡ false → has (is_poll f) es ≡ false →
    has (is_run_drop s.run) es ≡ false → bond_from f n s es ≡ s
bond-still f n s [] a b c = refl
bond-still f n s (e ∷ es) a b c =
    ap (λ (x : Bond). bond_from f (suc n) x es)
    (one e (left (is_kept f e) _ a) (left (is_poll f e) _ b) (left (is_run_drop s.run e) _ c))
    ∙ bond-still f (suc n) s es (right (is_kept f e) _ a) (right (is_poll f e) _ b) (right (is_run_drop s.run e) _ c)
  where
    left : (x y : Bool) → (x || y) ≡ false → x ≡ false
    left true y z = absurd (cc)
    left false y z = refl

    right : (x y : Bool) → (x || y) ≡ false → y ≡ false
    right true y z = absurd (cc)
    right false y z = z

    pass : (b : Bool) (x : Bond) → b ≡ false → cond b x s ≡ s
    pass true x z = absurd (cc)
    pass false x z = refl

    one : (x : Event) → is_kept f x ≡ false → is_poll f x ≡ false → is_run_drop s.run x ≡ false → binds f n x s ≡ s
    one (Event.Kept p g r) a b c = pass (eqb f g) _ a
    one (Event.PollBegun p g) a b c = pass (eqb f g) _ b
    one (Event.RunDropped p q) a b c = pass (eqb s.run q) _ c
    one _ a b c = refl

record At (f n : ℕ) (s : Bond) (es : Trace) (k : ℕ) (e : Event) : Type 0 where
  before : Bond
  is : bond_from f n s es ≡ bond_from f (suc (n + k)) (binds f (n + k) e before) (drop (suc k) es)

bond-at : (f n : ℕ) (s : Bond) (es : Trace) (k : ℕ) (e : Event) → slice_get es k ≡ Some e → At f n s es k e
bond-at f n s [] k e z = absurd (cc)
bond-at f n s (x ∷ es) zero e z =
    let same_one : x ≡ e = cc in
    let q : n ≡ n + 0 = omega arith in record {
      before = s;
      is = ap (λ (y : Event). bond_from f (suc n) (binds f n y s) es) same_one
          ∙ ap (λ (m : ℕ). bond_from f (suc m) (binds f m e s) es) q;
    }
bond-at f n s (x ∷ es) (suc k) e z =
    let h : At f (suc n) (binds f n x s) es k e = bond-at f (suc n) (binds f n x s) es k e z in
    let q : suc n + k ≡ n + suc k = omega arith in record {
      before = h.before;
      is = h.is ∙ ap (λ (m : ℕ). bond_from f (suc m) (binds f m e h.before) (drop (suc k) es)) q;
    }

pub bond-is : (f r p k : ℕ) (es : Trace) → slice_get es k ≡ Some (Event.Kept p f r) →
    has (is_kept f) (since k es) ≡ false → has (is_poll f) (since k es) ≡ false →
    has (is_run_drop r) (since k es) ≡ false →
    bond f es ≡ record { kept = true; run = r; party = p; place = k }
unfolding bond
bond-is f r p k es z a b c =
    let h : At f 0 unbound es k (Event.Kept p f r) = bond-at f 0 unbound es k (Event.Kept p f r) z in
    let from : drop (suc k) es ≡ since k es = ap (λ (n : ℕ). drop n es) (let q : suc k ≡ k + 1 = omega arith in q) in
    let now : binds f (0 + k) (Event.Kept p f r) h.before ≡ record { kept = true; run = r; party = p; place = 0 + k } =
    pick (eqb f f) _ h.before (grind (arith, nat_tests)) in
    let zero_less : 0 + k ≡ k = omega arith in
    h.is ∙ (ap (λ (x : Bond). bond_from f (suc (0 + k)) x (drop (suc k) es)) now
    ∙ (ap (λ (t : Trace). bond_from f (suc (0 + k)) (record { kept = true; run = r; party = p; place = 0 + k }) t) from
    ∙ (bond-still f (suc (0 + k)) (record { kept = true; run = r; party = p; place = 0 + k }) (since k es) a b c
    ∙ ap (λ (n : ℕ). let x : Bond = record { kept = true; run = r; party = p; place = n } in x) zero_less)))
  where
    pick : (b : Bool) (x y : Bond) → b ≡ true → cond b x y ≡ x
    pick true x y e = refl
    pick false x y e = absurd (cc)
