-- For calls_can_be_begun.
-- What the stacks count of a handle, waker, tick, run or of the executor is what calls in progress use.
use Rattle.std.proofs.Common.{◌≡◌, ◌∙◌, ◌⊎◌, inl, inr, ℕ, ◌+◌, ◌≤◌, List, [], ◌∷◌, ◌++◌, Bool, true, false, ◌||◌, cond}
use Rattle.std.proofs.Common.{refl, sym, ap, subst, arith}
use Rattle.std.specs.List.{list_any}
use Rattle.std.specs.Prelude.{reverse}
use Rattle.call_laws.proofs.Types.{Call, Hold, Mark, Op}
use Rattle.executor_model.specs.Calls.{Begun, calls}
use Rattle.executor_model.specs.Rows.{borrowing_of, handling_of, leaking_of, lending_of, running_of, ticking_of}
use Rattle.executor_model.specs.Steps.{Machine, stack}
use Rattle.executor_model.specs.Trace.{Trace, has, is_accepted}
use Rattle.executor_model.specs.Weights.{holds_executor, holds_handle, holds_leak, holds_run, holds_tick, holds_waker}
use Rattle.executor_model.specs.Weights.{weigh, weigh_all}
use Rattle.executor_model.proofs.OneFuture.Telling.{same-cond}
use Rattle.executor_model.proofs.Promises.{CallFrames.Tied}
use Rattle.executor_model.proofs.Promises.CallServes.{copies, misfit}
use Rattle.executor_model.proofs.Steps.Lists.{weigh-append, weigh-below, weigh-reverse}
use Rattle.call_laws.proofs.Carrying.{carried_of}
use Rattle.call_laws.proofs.Holding.{AllHeld, Any, Held, HeldBy, Holds, held-later, hold_for}
use Rattle.call_laws.proofs.Holding.Holds.{as_begun, made, spawned}
use Rattle.call_laws.proofs.Idling.{futures_of}
use Rattle.call_laws.proofs.Taking.{one-of, some-of}
use Rattle.call_laws.specs.InProgress.{InProgress, is_leak, names_handle, names_run, names_tick, reads_waker, uses_executor}
use Rattle.call_laws.specs.InProgress.{uses_handle}
use Rattle.call_laws.proofs.Rows.{borrowing-is, handling-few, handling-is, leaking-few, leaking-is, lending-is, letting_of}
use Rattle.call_laws.proofs.Rows.{making-is, running-few, running-is, ticking-few, ticking-is}

-- of a whole frame

all-rows : (v : Op → ℕ) (u : Hold → ℕ) (c : Call) → ((o : Op) → misfit c o ≡ 0 → v o ≡ carried_of u o) → (os : List Op) →
    weigh (misfit c) os ≡ 0 → weigh v os ≡ weigh (carried_of u) os
all-rows v u c k [] e = refl
all-rows v u c k (o ∷ os) e = omega (arith, k o (omega (arith, e)), all-rows v u c k os (omega (arith, e)))

-- a copy holds the waker that it reads, or nothing
copy-holds : (u : Hold → ℕ) (c : Call) (own : Trace) (held : Hold) → u Hold.Nothing ≡ 0 → ((k : ℕ) → u (Hold.Waker k) ≡ 0) →
    copies c ≡ true → Holds c own held → u held ≡ 0
copy-holds u c own held z k e (as_begun i n) = ap u i ∙ by c e
  where
    by : (c : Call) → copies c ≡ true → u (hold_for c) ≡ 0
    by (Call.Copy j) e = k j
    by Call.Keep e = z
    by _ e = absurd (cc)
copy-holds u c own held z k e (spawned m f i q n) = let no : copies (Call.Spawn m) ≡ true = ap copies (sym i) ∙ e in absurd (cc)
copy-holds u c own held z k e (made r i q n) = let no : copies Call.NewRun ≡ true = ap copies (sym i) ∙ e in absurd (cc)

counted : (v : Op → ℕ) (u : Hold → ℕ) → u Hold.Nothing ≡ 0 → ((k : ℕ) → u (Hold.Waker k) ≡ 0) →
    ((c : Call) → copies c ≡ false → (o : Op) → misfit c o ≡ 0 → v o ≡ carried_of u o) → ((o : Op) → v o ≤ carried_of u o) →
    (b : Begun) (os : List Op) (h : Held b os) → weigh v os ≡ u h.held
counted v u z k is few b os h = by (copies b.call) refl
  where
    by : (x : Bool) → copies b.call ≡ x → weigh v os ≡ u h.held
    by false e = all-rows v u b.call (is b.call e) os h.fits ∙ h.all u
    by true e =
        let n : u h.held ≡ 0 = copy-holds u b.call b.own h.held z k e h.holds in
        omega (arith, weigh-below v (carried_of u) few os, h.all u, n)

lent : (k : ℕ) (b : Begun) (os : List Op) (h : Held b os) → weigh (lending_of k) os ≡ holds_waker k h.held
lent k b os h = all-rows (lending_of k) (holds_waker k) b.call (λ o m. lending-is k o) os h.fits ∙ h.all (holds_waker k)

borrowed : (b : Begun) (os : List Op) (h : Held b os) → weigh borrowing_of os ≡ holds_executor h.held + weigh futures_of os
borrowed b os h = omega (arith, both os, h.all holds_executor)
  where
    both : (os : List Op) → weigh borrowing_of os ≡ weigh (carried_of holds_executor) os + weigh futures_of os
    both [] = refl
    both (o ∷ os) = omega (arith, borrowing-is o, both os)

-- what is held tells what the call uses

or-none : (b : Bool) → (b || false) ≡ b
or-none true = refl
or-none false = refl

handle-for : (g : ℕ) (c : Call) → holds_handle g (hold_for c) ≡ cond (names_handle g c) 1 0
handle-for g (Call.PollHandle f b) = same-cond g f
handle-for g (Call.Cancel f) = same-cond g f
handle-for g (Call.Detach f) = same-cond g f
handle-for g (Call.DropHandle f) = same-cond g f
handle-for g _ = refl

waker-for : (k : ℕ) (c : Call) → holds_waker k (hold_for c) ≡ cond (reads_waker k c) 1 0
waker-for k (Call.WakeByRef j) = same-cond k j
waker-for k (Call.Copy j) = same-cond k j
waker-for k _ = refl

tick-for : (t : ℕ) (c : Call) → holds_tick t (hold_for c) ≡ cond (names_tick t c) 1 0
tick-for t (Call.PollTick u b) = same-cond t u
tick-for t (Call.DropTick u) = same-cond t u
tick-for t _ = refl

run-for : (r : ℕ) (c : Call) → holds_run r (hold_for c) ≡ cond (names_run r c) 1 0
run-for r (Call.PollRun o b) = same-cond r o
run-for r (Call.DropRun o) = same-cond r o
run-for r _ = refl

leak-for : (c : Call) → holds_leak (hold_for c) ≡ cond (is_leak c) 1 0
leak-for Call.Leak = refl
leak-for _ = refl

executor-for : (c : Call) → holds_executor (hold_for c) ≡ cond (uses_executor c) 1 0
executor-for (Call.Wake k) = refl
executor-for _ = refl

handle-is : (g : ℕ) (c : Call) (own : Trace) (held : Hold) → Holds c own held →
    holds_handle g held ≡ cond (names_handle g c || has (is_accepted g) own) 1 0
handle-is g c own held (as_begun e k) = ap (holds_handle g) e ∙ (handle-for g c
    ∙ ap {B = ℕ} (λ (b : Bool). cond b 1 0) (sym (ap (λ (b : Bool). names_handle g c || b) (k g) ∙ or-none (names_handle g c))))
handle-is g c own held (spawned m f i e k) = ap (holds_handle g) e ∙ (same-cond g f
    ∙ ap {B = ℕ} (λ (b : Bool). cond b 1 0) (sym (k g) ∙ ap (λ (x : Call). names_handle g x || has (is_accepted g) own) (sym i)))
handle-is g c own held (made r i e k) = ap (holds_handle g) e
    ∙ ap {B = ℕ} (λ (b : Bool). cond b 1 0) (sym (ap (λ (x : Call). names_handle g x || has (is_accepted g) own) i ∙ k g))

plain-is : (u : Hold → ℕ) (t : Call → Bool) → ((c : Call) → u (hold_for c) ≡ cond (t c) 1 0) →
    ((m : Mark) (f : ℕ) → u (Hold.Spawned f) ≡ cond (t (Call.Spawn m)) 1 0) → ((r : ℕ) → u (Hold.Run r) ≡ cond (t Call.NewRun) 1 0) →
    (c : Call) (own : Trace) (held : Hold) → Holds c own held → u held ≡ cond (t c) 1 0
plain-is u t k s n c own held (as_begun e x) = ap u e ∙ k c
plain-is u t k s n c own held (spawned m f i e x) = ap u e ∙ (s m f ∙ ap {B = ℕ} (λ (y : Call). cond (t y) 1 0) (sym i))
plain-is u t k s n c own held (made r i e x) = ap u e ∙ (n r ∙ ap {B = ℕ} (λ (y : Call). cond (t y) 1 0) (sym i))

-- the count sees such calls, and beside them these ends at most
pub record Sees (v : Op → ℕ) (t : Begun → Bool) (m : Op → ℕ) : Type 0 where
  pub pos : (b : Begun) (os : List Op) → Held b os → t b ≡ true → 1 ≤ weigh v os
  pub neg : (b : Begun) (os : List Op) → Held b os → t b ≡ false → weigh v os ≤ weigh m os

abbrev pub zero_of : Op → ℕ
zero_of o = 0

on-true : (b : Bool) (n : ℕ) → n ≡ cond b 1 0 → b ≡ true → 1 ≤ n
on-true true n e z = omega (arith, e)
on-true false n e z = absurd (cc)

on-false : (b : Bool) (n k : ℕ) → n ≡ cond b 1 0 → b ≡ false → n ≤ k
on-false true n k e z = absurd (cc)
on-false false n k e z = omega (arith, e)

exact : (v : Op → ℕ) (t : Begun → Bool) → ((b : Begun) (os : List Op) → Held b os → weigh v os ≡ cond (t b) 1 0) → Sees v t zero_of
exact v t k = record {
  pos = λ b os h e. on-true (t b) (weigh v os) (k b os h) e;
  neg = λ b os h e. on-false (t b) (weigh v os) (weigh zero_of os) (k b os h) e;
}

pub sees-handle : (g : ℕ) → Sees (handling_of g) (uses_handle g) zero_of
sees-handle g = exact (handling_of g) (uses_handle g) (λ b os h.
    counted (handling_of g) (holds_handle g) refl (λ k. refl) (λ c off o m. handling-is c off g o m) (handling-few g) b os h
    ∙ handle-is g b.call b.own h.held h.holds)

pub sees-waker : (k : ℕ) → Sees (lending_of k) (λ b. reads_waker k b.call) zero_of
sees-waker k = exact (lending_of k) (λ b. reads_waker k b.call) (λ b os h. lent k b os h
    ∙ plain-is (holds_waker k) (reads_waker k) (waker-for k) (λ m f. refl) (λ r. refl) b.call b.own h.held h.holds)

pub sees-tick : (t : ℕ) → Sees (ticking_of t) (λ b. names_tick t b.call) zero_of
sees-tick t = exact (ticking_of t) (λ b. names_tick t b.call) (λ b os h.
    counted (ticking_of t) (holds_tick t) refl (λ k. refl) (λ c off o m. ticking-is c off t o m) (ticking-few t) b os h
    ∙ plain-is (holds_tick t) (names_tick t) (tick-for t) (λ m f. refl) (λ r. refl) b.call b.own h.held h.holds)

pub sees-leak : Sees leaking_of (λ b. is_leak b.call) zero_of
sees-leak = exact leaking_of (λ b. is_leak b.call) (λ b os h.
    counted leaking_of holds_leak refl (λ k. refl) (λ c off o m. leaking-is c off o m) leaking-few b os h
    ∙ plain-is holds_leak is_leak leak-for (λ m f. refl) (λ r. refl) b.call b.own h.held h.holds)

pub sees-executor : Sees borrowing_of (λ b. uses_executor b.call) zero_of
sees-executor = record {
  pos = λ b os h e. omega (arith, borrowed b os h, on-true (uses_executor b.call) (holds_executor h.held) (held-is b os h) e);
  neg = λ b os h e. omega (arith, borrowed b os h, h.idle e, on-false (uses_executor b.call) (holds_executor h.held) 0 (held-is b os h) e);
}
  where
    held-is : (b : Begun) (os : List Op) (h : Held b os) → holds_executor h.held ≡ cond (uses_executor b.call) 1 0
    held-is b os h =
        plain-is holds_executor uses_executor executor-for (λ m f. refl) (λ r. refl) b.call b.own h.held h.holds

pub sees-run : (r : ℕ) → Sees (running_of r) (λ b. names_run r b.call) (letting_of r)
sees-run r = record {
  pos = λ b os h e. pos b os h h.holds e;
  neg = λ b os h e. neg b os h h.holds e;
}
  where
    is-held : (b : Begun) (os : List Op) (h : Held b os) → weigh (running_of r) os ≡ holds_run r h.held
    is-held b os h =
        counted (running_of r) (holds_run r) refl (λ k. refl) (λ c off o m. running-is c off r o m) (running-few r) b os h

    pos : (b : Begun) (os : List Op) (h : Held b os) → Holds b.call b.own h.held → names_run r b.call ≡ true → 1 ≤ weigh (running_of r) os
    pos b os h (as_begun i k) e = on-true (names_run r b.call) _ (is-held b os h ∙ (ap (holds_run r) i ∙ run-for r b.call)) e
    pos b os h (spawned m f i q k) e = let no : names_run r (Call.Spawn m) ≡ true = ap (names_run r) (sym i) ∙ e in absurd (cc)
    pos b os h (made n i q k) e = let no : names_run r Call.NewRun ≡ true = ap (names_run r) (sym i) ∙ e in absurd (cc)

    neg : (b : Begun) (os : List Op) (h : Held b os) → Holds b.call b.own h.held → names_run r b.call ≡ false →
        weigh (running_of r) os ≤ weigh (letting_of r) os
    neg b os h (as_begun i k) e = on-false (names_run r b.call) _ _ (is-held b os h ∙ (ap (holds_run r) i ∙ run-for r b.call)) e
    neg b os h (spawned m f i q k) e = omega (arith, is-held b os h, ap (holds_run r) q)
    neg b os h (made n i q k) e = omega (
      arith,
      is-held b os h,
      h.all (holds_run r),
      ends os (subst (λ (c : Call). weigh (misfit c) os ≡ 0) i h.fits),
    )
      where
        ends : (os : List Op) → weigh (misfit Call.NewRun) os ≡ 0 → weigh (carried_of (holds_run r)) os ≡ weigh (letting_of r) os
        ends [] z = refl
        ends (o ∷ os) z = omega (arith, making-is r o (omega (arith, z)), ends os (omega (arith, z)))

-- of all frames of a party, and of all parties

frame-weigh : (v : Op → ℕ) (front : List Op) (last : Op) (below os : List Op) → os ≡ front ++ last ∷ below →
    weigh v os ≡ weigh v (front ++ last ∷ []) + weigh v below
frame-weigh v front last below os e = omega (
  arith,
  ap (weigh v) e,
  weigh-append v front (last ∷ below),
  weigh-append v front (last ∷ []),
)

module _ (v : Op → ℕ) (t : Begun → Bool) (m : Op → ℕ) (s : Sees v t m) where
  tied-pos : (es : Trace) (bs : List Begun) (os : List Op) → Tied HeldBy held-later Any es bs os → list_any t bs ≡ true → 1 ≤ weigh v os
  tied-pos es [] os k e = absurd (cc)
  tied-pos es (b ∷ bs) os k e =
      let w : weigh v os ≡ weigh v (k.0 ++ k.1 ∷ []) + weigh v k.2 = frame-weigh v k.0 k.1 k.2 os k.3.is in
      omega (arith, w, by (t b) refl e (λ q. tied-pos es bs k.2 k.4 q))
    where
      by : (x : Bool) → t b ≡ x → (x || list_any t bs) ≡ true → (list_any t bs ≡ true → 1 ≤ weigh v k.2) →
          1 ≤ weigh v (k.0 ++ k.1 ∷ []) + weigh v k.2
      by true z q f = omega (arith, s.pos b (k.0 ++ k.1 ∷ []) k.3.owes z)
      by false z q f = omega (arith, f q)

  tied-neg : (es : Trace) (bs : List Begun) (os : List Op) → Tied HeldBy held-later Any es bs os → list_any t bs ≡ false →
      weigh v os ≤ weigh m os
  tied-neg es [] os k e = let w : weigh v os ≡ 0 = ap (weigh v) k in omega (arith, w)
  tied-neg es (b ∷ bs) os k e =
      let w : weigh v os ≡ weigh v (k.0 ++ k.1 ∷ []) + weigh v k.2 = frame-weigh v k.0 k.1 k.2 os k.3.is in
      let n : weigh m os ≡ weigh m (k.0 ++ k.1 ∷ []) + weigh m k.2 = frame-weigh m k.0 k.1 k.2 os k.3.is in
      omega (arith, w, n, by (t b) refl e (λ q. tied-neg es bs k.2 k.4 q))
    where
      by : (x : Bool) → t b ≡ x → (x || list_any t bs) ≡ false → (list_any t bs ≡ false → weigh v k.2 ≤ weigh m k.2) →
          weigh v (k.0 ++ k.1 ∷ []) + weigh v k.2 ≤ weigh m (k.0 ++ k.1 ∷ []) + weigh m k.2
      by true z q f = absurd (cc)
      by false z q f = omega (arith, s.neg b (k.0 ++ k.1 ∷ []) k.3.owes z, f q)

  pub in-progress : (x : Machine) → AllHeld x → InProgress t x.world.trace → 1 ≤ weigh_all v x.parties
  in-progress x a k = omega (
    arith,
    tied-pos x.world.trace (calls k.0 x.world.trace).begun (reverse (stack x k.0)) (a.tied k.0) k.1,
    weigh-reverse v (stack x k.0),
    one-of v x.parties k.0,
  )

  pub some-use : (x : Machine) → AllHeld x → 1 ≤ weigh_all v x.parties →
      InProgress t x.world.trace ⊎ ((q : ℕ) × (1 ≤ weigh m (stack x q)))
  some-use x a l =
      let k = some-of v x.parties l in
      by k.0 k.1 (list_any t (calls k.0 x.world.trace).begun) refl
    where
      by : (q : ℕ) → 1 ≤ weigh v (stack x q) → (y : Bool) → list_any t (calls q x.world.trace).begun ≡ y →
          InProgress t x.world.trace ⊎ ((q : ℕ) × (1 ≤ weigh m (stack x q)))
      by q l true e = inl (q, e)
      by q l false e = inr (
        q,
        omega (
          arith,
          l,
          tied-neg x.world.trace (calls q x.world.trace).begun (reverse (stack x q)) (a.tied q) e,
          weigh-reverse v (stack x q),
          weigh-reverse m (stack x q),
        ),
      )
