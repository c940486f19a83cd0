-- For laws of the crates above.
-- What the automata tell of a future is what the definition of due says.
use Rattle.std.proofs.Common.{◌≡◌, ◌≢◌, ℕ, Bool, true, false, ◌||◌, cond, ◌==◌, [], ◌∷◌, ◌++◌, refl, sym, ap, ◌∙◌, subst}
use Rattle.std.proofs.Common.{append_assoc, append-nil}
use Rattle.executor_model.specs.declared.event.Event.TheVariants.{Accepted, PollBegun, Answered, LastWaker, Leaked, Woken}
use Rattle.executor_model.specs.declared.event.Answer.TheVariants.{Pending, Ready}
use Rattle.executor_model.specs.declared.event.Event.TheVariants.{Cancelled, Dropped}
use Rattle.executor_model.specs.Trace.{Trace, has, is_poll, is_answer, is_ready, is_dropped}
use Rattle.executor_model.specs.Due.{is_request, since_poll, HasOpenPoll}
use Rattle.executor_model.specs.Sound.{Phase, after_begun, after_answered, after_dropped, passes, phase}
use Rattle.executor_model.specs.Sound.Phase.{Fresh, Polling, Over, Broken}
use Rattle.executor_model.proofs.OneFuture.Requests.{Request, notes, request, request-push, request-none}
use Rattle.executor_model.proofs.Steps.Pushes.{any-push, since-push}
use Rattle.executor_model.proofs.{Types.Event, Steps.Lists.phase-push, Steps.Tests.or-left, Steps.Tests.or-right}

-- what is said of all traces by their last events
pub by_last : (P : Trace → Type 0) → P [] → ((xs : Trace) (e : Event) → P xs → P (xs ++ e ∷ [])) → (ys : Trace) → P ys
by_last P none more ys = go [] ys none
  where
    go : (xs ys : Trace) → P xs → P (xs ++ ys)
    go xs [] p = subst P (sym (append-nil xs)) p
    go xs (e ∷ ys) p = subst P (append_assoc xs (e ∷ []) ys) (go (xs ++ e ∷ []) ys (more xs e p))

-- who asked since the last poll began

or-cond : (a b : Bool) → (a || b) ≡ cond b true a
or-cond true true = refl
or-cond true false = refl
or-cond false true = refl
or-cond false false = refl

or-none : (a : Bool) → (a || false) ≡ a
or-none true = refl
or-none false = refl

request-one : (f : ℕ) (e : Event) (s : Request) →
    cond (is_poll f e) false (s.asked || is_request f e) ≡ (notes f e s).asked
request-one f (Accepted p g) s = by (f == g) s.asked
  where
    by : (b a : Bool) → (a || (b || false || false || false || false)) ≡ cond b true a
    by true a = or-cond a true
    by false a = or-cond a false
request-one f (Woken p g) s = by (f == g) s.asked
  where
    by : (b a : Bool) → (a || (b || false || false || false)) ≡ cond b true a
    by true a = or-cond a true
    by false a = or-cond a false
request-one f (Cancelled p g) s = by (f == g) s.asked
  where
    by : (b a : Bool) → (a || (b || false || false)) ≡ cond b true a
    by true a = or-cond a true
    by false a = or-cond a false
request-one f (LastWaker p g) s = by (f == g) s.asked
  where
    by : (b a : Bool) → (a || (b || false)) ≡ cond b true a
    by true a = or-cond a true
    by false a = or-cond a false
request-one f (Leaked p g) s = or-cond s.asked (f == g)
request-one f (PollBegun p g) s = by (f == g) s.asked
  where
    by : (b a : Bool) → cond b false (a || false) ≡ cond b false a
    by true a = refl
    by false a = or-none a
request-one f (Answered p g Ready) s = or-none s.asked
request-one f (Answered p g Pending) s = or-none s.asked
request-one f _ s = or-none s.asked

pub asked-is : (f : ℕ) (es : Trace) → has (is_request f) (since_poll f es) ≡ (request f es).asked
asked-is f es = by_last (λ (xs : Trace). has (is_request f) (since_poll f xs) ≡ (request f xs).asked)
    (sym (ap (λ (r : Request). r.asked) (request-none f))) more es
  where
    more : (xs : Trace) (e : Event) → has (is_request f) (since_poll f xs) ≡ (request f xs).asked →
        has (is_request f) (since_poll f (xs ++ e ∷ [])) ≡ (request f (xs ++ e ∷ [])).asked
    more xs e h = since-push (is_poll f) (is_request f) xs e
        ∙ (ap (λ (b : Bool). cond (is_poll f e) false (b || is_request f e)) h
        ∙ (request-one f e (request f xs) ∙ sym (ap (λ (r : Request). r.asked) (request-push f xs e))))

-- whether the future was ready

ready-one : (f : ℕ) (e : Event) (s : Request) → (s.ready || is_ready f e) ≡ (notes f e s).ready
ready-one f (Answered p g Ready) s = or-cond s.ready (f == g)
ready-one f (Answered p g Pending) s = or-none s.ready
ready-one f _ s = or-none s.ready

pub ready-is : (f : ℕ) (es : Trace) → has (is_ready f) es ≡ (request f es).ready
ready-is f es = by_last (λ (xs : Trace). has (is_ready f) xs ≡ (request f xs).ready)
    (sym (ap (λ (r : Request). r.ready) (request-none f))) more es
  where
    more : (xs : Trace) (e : Event) → has (is_ready f) xs ≡ (request f xs).ready →
        has (is_ready f) (xs ++ e ∷ []) ≡ (request f (xs ++ e ∷ [])).ready
    more xs e h = any-push (is_poll f) (is_ready f) xs e ∙ (ap (λ (b : Bool). b || is_ready f e) h
        ∙ (ready-one f e (request f xs) ∙ sym (ap (λ (r : Request). r.ready) (request-push f xs e))))

-- over is ready or dropped

abbrev pub is_over : Phase → Bool
is_over Fresh = false
is_over Polling = false
is_over Over = true
is_over Broken = false

-- as a number of a future's trace: it was ready or dropped
abbrev pub is_last : ℕ → Event → Bool
is_last f e = is_ready f e || is_dropped f e

-- what implies what, of tests
abbrev pub If : Bool → Bool → Type 0
If a b = a ≡ true → b ≡ true

over-one : (f : ℕ) (e : Event) (s : Phase) (m : Bool) → If (is_over s) m →
    If (is_over (passes f e s)) (m || is_last f e)
over-one f (PollBegun p g) s m h = by (f == g)
  where
    begun : (s : Phase) → is_over (after_begun s) ≡ false
    begun Fresh = refl
    begun Polling = refl
    begun Over = refl
    begun Broken = refl

    by : (b : Bool) → If (is_over (cond b (after_begun s) s)) (m || false)
    by true = λ k. let no : false ≡ true = sym (begun s) ∙ k in absurd (cc)
    by false = λ k. or-left m false (h k)
over-one f (Answered p g Ready) s m h = by (f == g)
  where
    by : (b : Bool) → If (is_over (cond b (after_answered Ready s) s)) (m || (b || false))
    by true = λ k. or-right m true refl
    by false = λ k. or-left m false (h k)
over-one f (Answered p g Pending) s m h = by (f == g)
  where
    rested : (s : Phase) → is_over (after_answered Pending s) ≡ false
    rested Fresh = refl
    rested Polling = refl
    rested Over = refl
    rested Broken = refl

    by : (b : Bool) → If (is_over (cond b (after_answered Pending s) s)) (m || false)
    by true = λ k. let no : false ≡ true = sym (rested s) ∙ k in absurd (cc)
    by false = λ k. or-left m false (h k)
over-one f (Dropped p g) s m h = by (f == g)
  where
    by : (b : Bool) → If (is_over (cond b (after_dropped s) s)) (m || b)
    by true = λ k. or-right m true refl
    by false = λ k. or-left m false (h k)
over-one f e s m h = λ k. or-left m (is_last f e) (h k)

pub over-last : (f : ℕ) (es : Trace) → If (is_over (phase f es)) (has (is_last f) es)
over-last f es = by_last (λ (xs : Trace). If (is_over (phase f xs)) (has (is_last f) xs)) (λ k. absurd (cc)) more es
  where
    more : (xs : Trace) (e : Event) → If (is_over (phase f xs)) (has (is_last f) xs) →
        If (is_over (phase f (xs ++ e ∷ []))) (has (is_last f) (xs ++ e ∷ []))
    more xs e h k = any-push (is_poll f) (is_last f) xs e
        ∙ over-one f e (phase f xs) (has (is_last f) xs) h (sym (ap is_over (phase-push f Fresh xs e)) ∙ k)

pub none-last : (f : ℕ) (es : Trace) → has (is_ready f) es ≡ false → has (is_dropped f) es ≡ false →
    has (is_last f) es ≡ false
none-last f [] a b = refl
none-last f (e ∷ es) a b = by (is_ready f e) (has (is_ready f) es) (is_dropped f e) (has (is_dropped f) es) a b
    (none-last f es)
  where
    by : (r rs d ds : Bool) → (r || rs) ≡ false → (d || ds) ≡ false →
        (rs ≡ false → ds ≡ false → has (is_last f) es ≡ false) →
        ((r || d) || has (is_last f) es) ≡ false
    by true rs d ds a b k = absurd (cc)
    by false rs true ds a b k = absurd (cc)
    by false rs false ds a b k = k a b

pub not-over : (f : ℕ) (es : Trace) → has (is_ready f) es ≡ false → has (is_dropped f) es ≡ false → phase f es ≢ Over
not-over f es a b o = let no : true ≡ false = sym (over-last f es (ap is_over o)) ∙ none-last f es a b in absurd (cc)

-- a poll that is open

abbrev is_open : Phase → Bool
is_open Fresh = false
is_open Polling = true
is_open Over = false
is_open Broken = true

-- polled, and unanswered since
abbrev Open : ℕ → Trace → Type 0
Open f es = has (is_poll f) es ≡ true → has (is_answer f) (since_poll f es) ≡ false → is_open (phase f es) ≡ true

open-one : (f : ℕ) (e : Event) (s : Phase) (polled answered : Bool) →
    (polled ≡ true → answered ≡ false → is_open s ≡ true) →
    (polled || is_poll f e) ≡ true → cond (is_poll f e) false (answered || is_answer f e) ≡ false →
    is_open (passes f e s) ≡ true
open-one f (PollBegun p g) s polled answered h = by (f == g)
  where
    begun : (s : Phase) → is_open (after_begun s) ≡ true
    begun Fresh = refl
    begun Polling = refl
    begun Over = refl
    begun Broken = refl

    by : (b : Bool) → (polled || b) ≡ true → cond b false (answered || false) ≡ false →
        is_open (cond b (after_begun s) s) ≡ true
    by true = λ i k. begun s
    by false = λ i k. h (sym (or-none polled) ∙ i) (sym (or-none answered) ∙ k)
open-one f (Answered p g a) s polled answered h = by (f == g)
  where
    by : (b : Bool) → (polled || false) ≡ true → (answered || b) ≡ false →
        is_open (cond b (after_answered a s) s) ≡ true
    by true = λ i k. let no : true ≡ false = sym (or-right answered true refl) ∙ k in absurd (cc)
    by false = λ i k. h (sym (or-none polled) ∙ i) (sym (or-none answered) ∙ k)
open-one f (Dropped p g) s polled answered h = by (f == g)
  where
    dropped : (s : Phase) → is_open s ≡ true → is_open (after_dropped s) ≡ true
    dropped Fresh e = absurd (cc)
    dropped Polling e = refl
    dropped Over e = absurd (cc)
    dropped Broken e = refl

    by : (b : Bool) → (polled || false) ≡ true → (answered || false) ≡ false →
        is_open (cond b (after_dropped s) s) ≡ true
    by true = λ i k. dropped s (h (sym (or-none polled) ∙ i) (sym (or-none answered) ∙ k))
    by false = λ i k. h (sym (or-none polled) ∙ i) (sym (or-none answered) ∙ k)
open-one f _ s polled answered h = λ i k. h (sym (or-none polled) ∙ i) (sym (or-none answered) ∙ k)

open-poll : (f : ℕ) (es : Trace) → Open f es
open-poll f es = by_last (Open f) (λ i k. absurd (cc)) more es
  where
    more : (xs : Trace) (e : Event) → Open f xs → Open f (xs ++ e ∷ [])
    more xs e h i k = ap is_open (phase-push f Fresh xs e)
        ∙ open-one f e (phase f xs) (has (is_poll f) xs) (has (is_answer f) (since_poll f xs)) h
        (sym (any-push (is_poll f) (is_poll f) xs e) ∙ i) (sym (since-push (is_poll f) (is_answer f) xs e) ∙ k)

pub unopened : (f : ℕ) (es : Trace) → phase f es ≢ Polling → phase f es ≢ Broken → ¬ HasOpenPoll f es
unopened f es a b o = by (phase f es) refl (open-poll f es o.begun o.unanswered)
  where
    by : (s : Phase) → phase f es ≡ s → is_open s ≡ true → ⊥
    by Fresh e k = absurd (cc)
    by Polling e k = a e
    by Over e k = absurd (cc)
    by Broken e k = b e
