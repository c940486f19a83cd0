-- For calls_do_what_they_say.
-- What calls do what they say rests on: how the calls that a trace tells of change with it.
use Rattle.std.proofs.Common.{◌≡◌, ◌≢◌, ◌∙◌, ℕ, List, [], ◌∷◌, ◌++◌, Bool, true, false, eqb, refl, sym, ap, arith, append-nil}
use Rattle.std.{proofs.lemmas.Bool.Decides.nat_tests, proofs.lemmas.List.append_assoc}
use Rattle.executor_model.specs.Calls.{Begun, Calls, calls, calls_from, does, hears, hears_by, hears_own, no_calls}
use Rattle.executor_model.specs.{Deeds.doer, Deeds.is_by, Trace.Trace, Trace.has}
use Rattle.executor_model.proofs.Steps.Tests.{left-false, or-left, right-false}
use Rattle.executor_model.proofs.{Types.Event, Steps.Deeds.begins_one, Steps.Deeds.ends_one, Steps.TraceMore.over-more}

calls_from-push : (q : ℕ) (s : Calls) (es : Trace) (e : Event) →
    calls_from q s (es ++ e ∷ []) ≡ hears q e (calls_from q s es)
calls_from-push q s [] e = refl
calls_from-push q s (x ∷ es) e = calls_from-push q (hears q x s) es e

pub calls-push : (q : ℕ) (es : Trace) (e : Event) → calls q (es ++ e ∷ []) ≡ hears q e (calls q es)
unfolding calls
calls-push q es e = calls_from-push q no_calls es e

past-from : (q : ℕ) (s : Calls) (es : Trace) → (calls_from q s es).past ≡ s.past ++ es
past-from q s [] = sym (append-nil s.past)
past-from q s (e ∷ es) = past-from q (hears q e s) es ∙ append_assoc s.past (e ∷ []) es

-- all that has happened is the trace
pub past-is : (q : ℕ) (es : Trace) → (calls q es).past ≡ es
unfolding calls
past-is q es = past-from q no_calls es

-- what is told of q's calls is the same
pub record Unheard (q : ℕ) (es now : Trace) : Type 0 where
  pub begun : (calls q now).begun ≡ (calls q es).begun
  pub ended : (calls q now).ended ≡ (calls q es).ended

hears-other : (q : ℕ) (es : Trace) (e : Event) → is_by q e ≡ false →
    calls q (es ++ e ∷ []) ≡ record (calls q es) { past = (calls q es).past ++ e ∷ [] }
hears-other q es e z = calls-push q es e
    ∙ ap (λ (b : Bool). let c : Calls = record (hears_by b e (calls q es)) { past = (calls q es).past ++ e ∷ [] } in c) z

-- others did more
pub unheard : (q : ℕ) (es more : Trace) → has (is_by q) more ≡ false → Unheard q es (es ++ more)
unheard q es more z = over-more (λ now. Unheard q es now) (is_by q)
    (λ now e n h. record {
      begun = ap (λ (c : Calls). c.begun) (hears-other q now e n) ∙ h.begun;
      ended = ap (λ (c : Calls). c.ended) (hears-other q now e n) ∙ h.ended;
    }) es more z (record { begun = refl; ended = refl })

-- the innermost call did more
abbrev pub does_all : Trace → List Begun → List Begun
does_all more [] = []
does_all more (b ∷ bs) = record b { own = b.own ++ more } ∷ bs

does-none : (bs : List Begun) → does_all [] bs ≡ bs
does-none [] = refl
does-none (b ∷ bs) = ap (λ (t : Trace). let l : List Begun = record b { own = t } ∷ bs in l) (append-nil b.own)

does-more : (e : Event) (more : Trace) (bs : List Begun) → does_all more (does e bs) ≡ does_all (e ∷ more) bs
does-more e more [] = refl
does-more e more (b ∷ bs) = ap (λ (t : Trace). let l : List Begun = record b { own = t } ∷ bs in l)
    (append_assoc b.own (e ∷ []) more)

pub record Heard (p : ℕ) (es more now : Trace) : Type 0 where
  pub begun : (calls p now).begun ≡ does_all more (calls p es).begun
  pub ended : (calls p now).ended ≡ (calls p es).ended

hears-plain : (e : Event) (s : Calls) → begins_one e ≡ false → ends_one e ≡ false →
    hears_own e s ≡ record s { begun = does e s.begun }
hears-plain (Event.CallBegun p c) s a b = absurd (cc)
hears-plain (Event.CallEnded p r) s a b = absurd (cc)
hears-plain _ s a b = refl

-- nobody else did it
done-by : (p : ℕ) (e : Event) (more : Trace) → ((q : ℕ) → q ≢ p → has (is_by q) (e ∷ more) ≡ false) → is_by p e ≡ true
done-by p e more own = go (eqb (doer e) p) refl
  where
    go : (b : Bool) → eqb (doer e) p ≡ b → is_by p e ≡ true
    go true z = z
    go false z =
        let n : doer e ≢ p = grind (arith, nat_tests) in
        let here : is_by (doer e) e ≡ true = grind (arith, nat_tests) in
        let no : true ≡ false = sym (or-left (is_by (doer e) e) (has (is_by (doer e)) more) here) ∙ own (doer e) n in
        absurd (cc)

pub hears-it : (p : ℕ) (es : Trace) (e : Event) → is_by p e ≡ true →
    calls p (es ++ e ∷ []) ≡ record (hears_own e (calls p es)) { past = (calls p es).past ++ e ∷ [] }
hears-it p es e z = calls-push p es e
    ∙ ap (λ (b : Bool). let c : Calls = record (hears_by b e (calls p es)) { past = (calls p es).past ++ e ∷ [] } in c) z

hears-one : (p : ℕ) (es : Trace) (e : Event) → is_by p e ≡ true → begins_one e ≡ false → ends_one e ≡ false →
    Heard p es (e ∷ []) (es ++ e ∷ [])
hears-one p es e z a b = record {
  begun = ap (λ (c : Calls). c.begun) (hears-it p es e z)
      ∙ (ap (λ (c : Calls). c.begun) (hears-plain e (calls p es) a b)
      ∙ (sym (does-none (does e (calls p es).begun)) ∙ does-more e [] (calls p es).begun));
  ended = ap (λ (c : Calls). c.ended) (hears-it p es e z)
      ∙ ap (λ (c : Calls). c.ended) (hears-plain e (calls p es) a b);
}

-- its party did more, and began and ended no call by it
pub heard : (p : ℕ) (es more : Trace) → has begins_one more ≡ false → has ends_one more ≡ false →
    ((q : ℕ) → q ≢ p → has (is_by q) more ≡ false) → Heard p es more (es ++ more)
heard p es [] a b own = record {
  begun = ap (λ (t : Trace). (calls p t).begun) (append-nil es) ∙ sym (does-none (calls p es).begun);
  ended = ap (λ (t : Trace). (calls p t).ended) (append-nil es);
}
heard p es (e ∷ more) a b own =
    let one : Heard p es (e ∷ []) (es ++ e ∷ []) =
    hears-one p es e (done-by p e more own) (left-false (begins_one e) (has begins_one more) a)
    (left-false (ends_one e) (has ends_one more) b) in
    let rest : Heard p (es ++ e ∷ []) more ((es ++ e ∷ []) ++ more) =
    heard p (es ++ e ∷ []) more (right-false (begins_one e) (has begins_one more) a)
    (right-false (ends_one e) (has ends_one more) b)
    (λ q n. right-false (is_by q e) (has (is_by q) more) (own q n)) in
    record {
      begun = ap (λ (t : Trace). (calls p t).begun) (sym (append_assoc es (e ∷ []) more))
          ∙ (rest.begun ∙ (ap (does_all more) one.begun ∙ twice e more (calls p es).begun));
      ended = ap (λ (t : Trace). (calls p t).ended) (sym (append_assoc es (e ∷ []) more)) ∙ (rest.ended ∙ one.ended);
    }
  where
    twice : (e : Event) (more : Trace) (bs : List Begun) → does_all more (does_all (e ∷ []) bs) ≡ does_all (e ∷ more) bs
    twice e more [] = refl
    twice e more (b ∷ bs) = ap (λ (t : Trace). let l : List Begun = record b { own = t } ∷ bs in l)
        (append_assoc b.own (e ∷ []) more)
