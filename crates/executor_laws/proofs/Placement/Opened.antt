-- For due_futures_stand_with_their_keepers.
-- The calls that a trace tells of as in progress are those that are, each poll of a run at its place.
use Rattle.std.proofs.Common.{◌≡◌, ◌∙◌, ⊎_elim, ℕ, zero, suc, ◌+◌, ◌<◌, ◌≤◌, List, [], ◌∷◌, ◌++◌, length, drop, Bool, true}
use Rattle.std.proofs.Common.{false, eqb, cond, refl, sym, ap, subst, arith}
use Rattle.std.proofs.lemmas.Bool.Decides.{nat_tests}
use Rattle.std.specs.Prelude.{Option, Some, None, slice_get}
use Rattle.executor_laws.proofs.Types.{Reply, Event}
use Rattle.executor_model.specs.{Trace.Trace, Weights.same}
use Rattle.executor_model.proofs.{Quiet.Calls.begin_of, Quiet.Calls.end_of, Steps.Lists.same_is, Polls.Dueness.by_last}
use Rattle.executor_laws.proofs.Placement.Opens.{Open, opens, opens_one, opens-push, opens-none, get-old, get-new, get-push}
use Rattle.executor_laws.proofs.Placement.Opens.{IsOpen, open-push, open-now, Before, open-before}

abbrev pub at : List Open → ℕ → Option Open
at s d = slice_get s d

abbrev pub poll_at : ℕ → ℕ → Option Open
poll_at r k = Some (Some (r, k))

abbrev pub run_in : Option Open → ℕ
run_in (Some (Some x)) = x.0
run_in _ = 0

abbrev pub place_in : Option Open → ℕ
place_in (Some (Some x)) = x.1
place_in _ = 0

-- an event that is nothing to the calls of p
record Apart (p : ℕ) (e : Event) : Type 0 where
  stays : (n : ℕ) (s : List Open) → opens_one p n e s ≡ s
  begins : begin_of p e ≡ 0
  ends : end_of p e ≡ 0

-- what an event is to the calls of party p
data Kind (p : ℕ) (e : Event) : Type 0 where
  apart : Apart p e → Kind p e
  begins : ((n : ℕ) (s : List Open) → opens_one p n e s ≡ None ∷ s) → begin_of p e ≡ 1 → end_of p e ≡ 0 → Kind p e
  ends : (a : Reply) → e ≡ Event.CallEnded p a → ((n : ℕ) (s : List Open) → opens_one p n e s ≡ drop 1 s) →
      begin_of p e ≡ 0 → end_of p e ≡ 1 → Kind p e
  polls : (r : ℕ) → e ≡ Event.RunPolled p r → ((n : ℕ) (s : List Open) → opens_one p n e s ≡ Some (r, n) ∷ drop 1 s) →
      begin_of p e ≡ 0 → end_of p e ≡ 0 → Kind p e

self : (p q : ℕ) → eqb p q ≡ true → q ≡ p
self p q e = grind (arith, nat_tests)

same-true : (p q : ℕ) → eqb p q ≡ true → same p q ≡ 1
same-true p q e = grind (arith, same_is, nat_tests)

same-false : (p q : ℕ) → eqb p q ≡ false → same p q ≡ 0
same-false p q e = grind (arith, same_is, nat_tests)

pick : {A : Type 0} (b : Bool) (x y : A) → b ≡ true → cond b x y ≡ x
pick true x y e = refl
pick false x y e = absurd (cc)

pass : {A : Type 0} (b : Bool) (x y : A) → b ≡ false → cond b x y ≡ y
pass true x y e = absurd (cc)
pass false x y e = refl

kind-begun : (p q : ℕ) (e : Event) (b : Bool) → eqb p q ≡ b →
    ((n : ℕ) (s : List Open) → opens_one p n e s ≡ cond (eqb p q) (None ∷ s) s) → begin_of p e ≡ same p q →
    end_of p e ≡ 0 → Kind p e
kind-begun p q e true z f i j = begins (λ n s. f n s ∙ pick (eqb p q) (None ∷ s) s z) (i ∙ same-true p q z) j
kind-begun p q e false z f i j =
    apart (record { stays = λ n s. f n s ∙ pass (eqb p q) (None ∷ s) s z; begins = i ∙ same-false p q z; ends = j })

kind-ended : (p q : ℕ) (a : Reply) (b : Bool) → eqb p q ≡ b → Kind p (Event.CallEnded q a)
kind-ended p q a true z =
    ends a (ap (λ (n : ℕ). Event.CallEnded n a) (self p q z)) (λ n s. pick (eqb p q) (drop 1 s) s z) refl
    (same-true p q z)
kind-ended p q a false z = apart
    (record { stays = λ n s. pass (eqb p q) (drop 1 s) s z; begins = refl; ends = same-false p q z })

kind-polled : (p q r : ℕ) (b : Bool) → eqb p q ≡ b → Kind p (Event.RunPolled q r)
kind-polled p q r true z =
    polls r (ap (λ (n : ℕ). Event.RunPolled n r) (self p q z)) (λ n s. pick (eqb p q) (Some (r, n) ∷ drop 1 s) s z) refl
    refl
kind-polled p q r false z = apart
    (record { stays = λ n s. pass (eqb p q) (Some (r, n) ∷ drop 1 s) s z; begins = refl; ends = refl })

kind : (p : ℕ) (e : Event) → Kind p e
kind p (Event.CallBegun q c) = kind-begun p q (Event.CallBegun q c) _ refl (λ n s. refl) refl refl
kind p (Event.CallEnded q a) = kind-ended p q a _ refl
kind p (Event.RunPolled q r) = kind-polled p q r _ refl
kind p _ = apart (record { stays = λ n s. refl; begins = refl; ends = refl })

drop-at : (s : List Open) (d : ℕ) → at (drop 1 s) d ≡ at s (suc d)
drop-at [] d = refl
drop-at (x ∷ s) d = refl

-- what is told of as in progress is

abbrev Told : ℕ → Trace → Type 0
Told p es = (d r k : ℕ) → at (opens p es) d ≡ poll_at r k →
    (slice_get es k ≡ Some (Event.RunPolled p r)) × IsOpen p k d es

told-more : (p r k d c : ℕ) (es : Trace) (e : Event) →
    (slice_get es k ≡ Some (Event.RunPolled p r)) × IsOpen p k d es →
    c + end_of p e ≡ d + begin_of p e → end_of p e ≤ d + begin_of p e →
    (slice_get (es ++ e ∷ []) k ≡ Some (Event.RunPolled p r)) × IsOpen p k c (es ++ e ∷ [])
told-more p r k d c es e h q l = (get-old es k e h.1.within ∙ h.0, open-push p k d c es e h.1 q l)

told-kind : (p : ℕ) (es : Trace) (e : Event) → Kind p e → Told p es → Told p (es ++ e ∷ [])
told-kind p es e (apart x) h d r k z =
    let old : at (opens p es) d ≡ poll_at r k =
    ap (λ (s : List Open). at s d) (sym (opens-push p es e ∙ x.stays (length es) (opens p es))) ∙ z in
    told-more p r k d d es e (h d r k old) (omega (arith, x.begins, x.ends)) (omega (arith, x.ends))
told-kind p es e (begins f i j) h zero r k z =
    let no : at (None ∷ opens p es) 0 ≡ poll_at r k =
    ap (λ (s : List Open). at s 0) (sym (opens-push p es e ∙ f (length es) (opens p es))) ∙ z in absurd (cc)
told-kind p es e (begins f i j) h (suc d) r k z =
    let old : at (opens p es) d ≡ poll_at r k =
    ap (λ (s : List Open). at s (suc d)) (sym (opens-push p es e ∙ f (length es) (opens p es))) ∙ z in
    told-more p r k d (suc d) es e (h d r k old) (omega (arith, i, j)) (omega (arith, j))
told-kind p es e (ends a y f i j) h d r k z =
    let old : at (opens p es) (suc d) ≡ poll_at r k =
    sym (drop-at (opens p es) d)
    ∙ (ap (λ (s : List Open). at s d) (sym (opens-push p es e ∙ f (length es) (opens p es))) ∙ z) in
    told-more p r k (suc d) d es e (h (suc d) r k old) (omega (arith, i, j)) (omega (arith, j))
told-kind p es e (polls q y f i j) h zero r k z =
    let now : at (Some (q, length es) ∷ drop 1 (opens p es)) 0 ≡ poll_at r k =
    ap (λ (s : List Open). at s 0) (sym (opens-push p es e ∙ f (length es) (opens p es))) ∙ z in
    let same_run : q ≡ r = ap run_in now in
    let same_place : length es ≡ k = ap place_in now in
    subst (λ (m : ℕ). (slice_get (es ++ e ∷ []) m ≡ Some (Event.RunPolled p r)) × IsOpen p m 0 (es ++ e ∷ []))
    same_place (
      get-new es e ∙ (ap (λ (x : Event). Some x) y ∙ ap (λ (n : ℕ). Some (Event.RunPolled p n)) same_run),
      open-now p es e,
    )
told-kind p es e (polls q y f i j) h (suc d) r k z =
    let old : at (opens p es) (suc d) ≡ poll_at r k =
    sym (drop-at (opens p es) d)
    ∙ (ap (λ (s : List Open). at s (suc d)) (sym (opens-push p es e ∙ f (length es) (opens p es))) ∙ z) in
    told-more p r k (suc d) (suc d) es e (h (suc d) r k old) (omega (arith, i, j)) (omega (arith, j))

pub told : (p : ℕ) (es : Trace) → Told p es
told p es = by_last (Told p)
    (λ d r k z. let no : at (let s : List Open = [] in s) d ≡ poll_at r k =
    ap (λ (s : List Open). at s d) (sym (opens-none p)) ∙ z in absurd (cc))
    (λ xs e h. told-kind p xs e (kind p e) h) es

-- each poll of a run that is in progress is told of, where none is told of within the call of another

abbrev pub Tells : ℕ → Trace → Type 0
Tells p es = (d r k : ℕ) → slice_get es k ≡ Some (Event.RunPolled p r) → IsOpen p k d es →
    at (opens p es) d ≡ poll_at r k

pub tells-none : (p : ℕ) → Tells p []
tells-none p d r k e h = absurd (omega (arith, h.within))

-- no poll of a run begins by it
abbrev pub polls_no_run : Event → Bool
polls_no_run (Event.RunPolled p r) = false
polls_no_run _ = true

old-poll : (p r k : ℕ) (es : Trace) (e : Event) → (k < length es) × (slice_get es k ≡ Some (Event.RunPolled p r)) →
    (d : ℕ) → IsOpen p k d (es ++ e ∷ []) → Tells p es → (c : ℕ) → c + begin_of p e ≡ d + end_of p e →
    at (opens p es) c ≡ poll_at r k
old-poll p r k es e o d h t c q =
    let b : Before p k d es e = open-before p k d es e o.0 h in
    let z : b.depth ≡ c = omega (arith, b.level, q) in
    subst (λ (n : ℕ). at (opens p es) n ≡ poll_at r k) z (t b.depth r k o.1 b.was)

tells-kind : (p : ℕ) (es : Trace) (e : Event) → Kind p e → polls_no_run e ≡ true → Tells p es → Tells p (es ++ e ∷ [])
tells-kind p es e x n t d r k g h = ⊎_elim
    (λ (o : (k < length es) × (slice_get es k ≡ Some (Event.RunPolled p r))). by x o)
    (λ (o : (k ≡ length es) × (e ≡ Event.RunPolled p r)). absurd (let no : polls_no_run (Event.RunPolled p r) ≡ true =
    ap polls_no_run (sym o.1) ∙ n in cc))
    (get-push es k e (Event.RunPolled p r) g)
  where
    positive : (c : ℕ) → IsOpen p k c (es ++ e ∷ []) → (b : Before p k c es e) → end_of p e ≡ 1 → begin_of p e ≡ 0 →
        b.depth ≡ suc c
    positive c i b q z = omega (arith, b.level, q, z)

    by : Kind p e → (k < length es) × (slice_get es k ≡ Some (Event.RunPolled p r)) →
        at (opens p (es ++ e ∷ [])) d ≡ poll_at r k
    by (apart x) o = ap (λ (s : List Open). at s d) (opens-push p es e ∙ x.stays (length es) (opens p es))
        ∙ old-poll p r k es e o d h t d (omega (arith, x.begins, x.ends))
    by (begins f i j) o = ap (λ (s : List Open). at s d) (opens-push p es e ∙ f (length es) (opens p es)) ∙ under d h
      where
        under : (c : ℕ) → IsOpen p k c (es ++ e ∷ []) → at (None ∷ opens p es) c ≡ poll_at r k
        under zero h2 = let b : Before p k 0 es e = open-before p k 0 es e o.0 h2 in
            absurd (omega (arith, b.level, i, j))
        under (suc c) h2 = old-poll p r k es e o (suc c) h2 t c (omega (arith, i, j))
    by (ends a y f i j) o = ap (λ (s : List Open). at s d) (opens-push p es e ∙ f (length es) (opens p es))
        ∙ (drop-at (opens p es) d ∙ old-poll p r k es e o d h t (suc d) (omega (arith, i, j)))
    by (polls q y f i j) o = absurd (let no : polls_no_run (Event.RunPolled p q) ≡ true =
        ap polls_no_run (sym y) ∙ n in cc)

pub tells-push : (p : ℕ) (es : Trace) (e : Event) → polls_no_run e ≡ true → Tells p es → Tells p (es ++ e ∷ [])
tells-push p es e n t = tells-kind p es e (kind p e) n t

-- a poll that begins as its call does
pub tells-poll : (p q r : ℕ) (es : Trace) → at (opens q es) 0 ≡ Some None → Tells p es →
    Tells p (es ++ Event.RunPolled q r ∷ [])
tells-poll p q r es top t d m k g h = ⊎_elim
    (λ (o : (k < length es) × (slice_get es k ≡ Some (Event.RunPolled p m))). by (kind p e) o)
    (λ (o : (k ≡ length es) × (e ≡ Event.RunPolled p m)). own (kind p e) o)
    (get-push es k e (Event.RunPolled p m) g)
  where
    e : Event
    e = Event.RunPolled q r

    same_party : (x : ℕ) → Event.RunPolled q r ≡ Event.RunPolled p x → q ≡ p
    same_party x z = cc

    by : Kind p e → (k < length es) × (slice_get es k ≡ Some (Event.RunPolled p m)) →
        at (opens p (es ++ e ∷ [])) d ≡ poll_at m k
    by (apart x) o = ap (λ (s : List Open). at s d) (opens-push p es e ∙ x.stays (length es) (opens p es))
        ∙ old-poll p m k es e o d h t d (omega (arith, x.begins, x.ends))
    by (begins f i j) o = absurd (omega (arith, i))
    by (ends a y f i j) o = absurd (omega (arith, j))
    by (polls x y f i j) o = ap (λ (s : List Open). at s d) (opens-push p es e ∙ f (length es) (opens p es)) ∙ under d
        (old-poll p m k es e o d h t d (omega (arith, i, j)))
      where
        under : (c : ℕ) → at (opens p es) c ≡ poll_at m k →
            at (Some (x, length es) ∷ drop 1 (opens p es)) c ≡ poll_at m k
        under zero z = let no : ◌≡◌ {A = Option Open} (Some None) (poll_at m k) =
            sym (subst (λ (n : ℕ). at (opens n es) 0 ≡ Some None) (same_party x y) top) ∙ z in absurd (cc)
        under (suc c) z = drop-at (opens p es) c ∙ z

    own : Kind p e → (k ≡ length es) × (e ≡ Event.RunPolled p m) → at (opens p (es ++ e ∷ [])) d ≡ poll_at m k
    own (apart x) o = absurd (none-apart (same_party m o.1))
      where
        none-apart : q ≡ p → ⊥
        none-apart z =
            let now : ◌≡◌ {A = List Open} (Some (r, 0) ∷ []) [] =
            sym (pick (eqb p q) (Some (r, 0) ∷ []) [] (grind (arith, nat_tests))) ∙ x.stays 0 [] in absurd (cc)
    own (begins f i j) o = absurd (omega (arith, i))
    own (ends a y f i j) o = absurd (omega (arith, j))
    own (polls x y f i j) o = ap (λ (s : List Open). at s d) (opens-push p es e ∙ f (length es) (opens p es)) ∙ here d h
      where
        here : (c : ℕ) → IsOpen p k c (es ++ e ∷ []) → at (Some (x, length es) ∷ drop 1 (opens p es)) c ≡ poll_at m k
        here zero h2 =
            let same_run : x ≡ m = let z : Event.RunPolled p x ≡ Event.RunPolled p m = sym y ∙ o.1 in cc in
            let pair : (x, length es) ≡ (m, k) = ap (λ (n : ℕ). (n, length es)) same_run
            ∙ ap (λ (n : ℕ). (m, n)) (sym o.0) in
            ap (λ (u : ℕ × ℕ). let v : Option Open = Some (Some u) in v) pair
        here (suc c) h2 =
            let n : IsOpen p (length es) (suc c) (es ++ e ∷ []) =
            subst (λ (i : ℕ). IsOpen p i (suc c) (es ++ e ∷ [])) o.0 h2 in
            let z : IsOpen p (length es) 0 (es ++ e ∷ []) = open-now p es e in
            absurd (omega (arith, n.level, z.level))
