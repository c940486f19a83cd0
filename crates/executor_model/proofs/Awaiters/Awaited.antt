-- For awaiters_are_kept.
-- What holds at every moment of each future and of who waits on its handle.
use Rattle.std.proofs.Common.{◌≡◌, ◌≢◌, ◌⊎◌, ℕ, zero, suc, ◌+◌, ◌==◌, ◌<◌, ◌≤◌, List, [], ◌∷◌, ◌++◌, length, set, get_or, Bool}
use Rattle.std.proofs.Common.{true, false, ◌&&◌, cond, eqb, refl, ap, ◌∙◌, inl, inr, ⊎_elim, arith, get_or-set_same}
use Rattle.std.specs.Prelude.{Option, Some, None}
use Rattle.std.{proofs.Common.get_or-set_other, proofs.Math.Path.fun_ext}
use Rattle.executor_model.proofs.Types.{Reply, Event, Awaiter, Hold, Polled, Op, HandleOp, Move, WakerOp}
use Rattle.executor_model.specs.World.{World, Done, task, awaiter_of}
use Rattle.executor_model.specs.Weights.{same, weigh, weigh_all, holds_handle}
use Rattle.executor_model.specs.Sound.{Pend, queued, with_ops, tokens, times}
use Rattle.executor_model.specs.{Trace.Trace, Trace.takes_handle, Rows.handling_of, Acts.closing_ops, Acts.leaking_ops}
use Rattle.executor_model.proofs.Steps.Lists.{same_cases, weigh-closing, weigh-leaking}

-- what a trace tells of future g and of the last poll of its handle, read from left to right
pub record Heard : Type 0 where
  -- where that poll stands, and whose it is
  pub poll : ℕ
  pub party : ℕ
  -- it isn't answered, and so many calls of its party are in progress inside of it
  pub asking : Bool
  pub inner : ℕ
  pub pending : Bool
  -- its waker was called
  pub called : Bool
  pub dropped : Bool
  -- a call has begun that takes the handle by value
  pub parted : Bool

abbrev pub unheard : Heard
unheard = record {
  poll = 0;
  party = 0;
  asking = false;
  inner = 0;
  pending = false;
  called = false;
  dropped = false;
  parted = false;
}

abbrev pub is_pending : Reply → Bool
is_pending Reply.Pending = true
is_pending _ = false

-- a call of the party has ended
abbrev pub ended_in : ℕ → Reply → Heard → Heard
ended_in zero r s = record s { asking = false; pending = is_pending r }
ended_in (suc n) r s = record s { inner = n }

-- the event at place n
abbrev pub hears : ℕ → ℕ → Event → Heard → Heard
hears g n (Event.HandlePolled p f) s =
    cond (g == f) (record s { poll = n; party = p; asking = true; inner = 0; pending = false; called = false }) s
hears g n (Event.CallBegun p c) s =
    record s {
      inner = s.inner + cond s.asking (same s.party p) 0;
      parted = cond (takes_handle g (Event.CallBegun p c)) true s.parted;
    }
hears g n (Event.CallEnded p r) s = cond (s.asking && (s.party == p)) (ended_in s.inner r s) s
hears g n (Event.WakerCalled p (Polled.Handle f) k a) s =
    record s { called = cond (g == f) (cond (s.poll == k) true s.called) s.called }
hears g n (Event.Dropped p f) s = record s { dropped = cond (g == f) true s.dropped }
hears g n _ s = s

abbrev pub heard_from : ℕ → ℕ → Heard → Trace → Heard
heard_from g n s [] = s
heard_from g n s (e ∷ es) = heard_from g (suc n) (hears g n e s) es

unfoldable pub heard : ℕ → Trace → Heard
heard g es = heard_from g 0 unheard es

heard_from-push : (g n : ℕ) (s : Heard) (es : Trace) (e : Event) →
    heard_from g n s (es ++ e ∷ []) ≡ hears g (n + length es) e (heard_from g n s es)
heard_from-push g n s [] e = ap (λ (m : ℕ). hears g m e s) (let z : n ≡ n + 0 = omega arith in z)
heard_from-push g n s (x ∷ es) e = heard_from-push g (suc n) (hears g n x s) es e
    ∙ ap (λ (m : ℕ). hears g m e (heard_from g (suc n) (hears g n x s) es))
    (let z : suc n + length es ≡ n + suc (length es) = omega arith in z)

pub heard-push : (g : ℕ) (es : Trace) (e : Event) → heard g (es ++ e ∷ []) ≡ hears g (length es) e (heard g es)
unfolding heard
heard-push g es e = heard_from-push g 0 unheard es e ∙ ap (λ (m : ℕ). hears g m e (heard_from g 0 unheard es))
    (let z : 0 + length es ≡ length es = omega arith in z)

pub heard-none : (g : ℕ) → heard g [] ≡ unheard
unfolding heard
heard-none g = refl

-- stages of a poll of the handle: it may be refused yet
abbrev pub looks_of : ℕ → Op → ℕ
looks_of g (Op.Handle (HandleOp.Look f a)) = same g f
looks_of g (Op.Handle (HandleOp.CopyAwaiter f a)) = same g f
looks_of g _ = 0

-- and it wasn't refused

abbrev pub fresh_of : ℕ → Op → ℕ
fresh_of g (Op.Handle (HandleOp.Register f a k)) = same g f
fresh_of g _ = 0

abbrev pub storing_of : ℕ → Op → ℕ
storing_of g (Op.Handle (HandleOp.EndRegister f a k)) = same g f
storing_of g _ = 0

abbrev pub again_of : ℕ → Op → ℕ
again_of g (Op.Handle (HandleOp.LookAgain f)) = same g f
again_of g _ = 0

-- its end, where that is the answer that there is no output yet
abbrev pub waits_of : ℕ → Op → ℕ
waits_of g (Op.End Reply.Pending (Hold.Handle f)) = same g f
waits_of g _ = 0

-- or another answer
abbrev pub over_of : ℕ → Op → ℕ
over_of g (Op.End Reply.Ready (Hold.Handle f)) = same g f
over_of g (Op.End Reply.Cancelled (Hold.Handle f)) = same g f
over_of g _ = 0

abbrev pub notices_of : ℕ → Op → ℕ
notices_of g (Op.Handle (HandleOp.Notify f mine)) = same g f
notices_of g _ = 0

abbrev pub notifying_of : ℕ → Op → ℕ
notifying_of g (Op.Handle (HandleOp.EndNotify f mine)) = same g f
notifying_of g _ = 0

-- the two by a poll of the handle itself
abbrev pub mine_of : ℕ → Op → ℕ
mine_of g (Op.Handle (HandleOp.Notify f true)) = same g f
mine_of g (Op.Handle (HandleOp.EndNotify f true)) = same g f
mine_of g _ = 0

abbrev pub detaches_of : ℕ → Op → ℕ
detaches_of g (Op.Move Move.Detach f) = same g f
detaches_of g _ = 0

-- a copy of a waker that would hold the handle
abbrev pub lending_of : ℕ → Op → ℕ
lending_of g (Op.Waker (WakerOp.CopyWaker f held)) = holds_handle g held
lending_of g _ = 0

-- the waker of another poll than k is about to be stored
abbrev pub strays_of : ℕ → ℕ → Op → ℕ
strays_of g k (Op.Handle (HandleOp.Register f a l)) = cond (g == f) (cond (k == l) 0 1) 0
strays_of g k (Op.Handle (HandleOp.EndRegister f a l)) = cond (g == f) (cond (k == l) 0 1) 0
strays_of g k _ = 0

-- the waker of poll k is about to be called
abbrev pub calls_of : ℕ → ℕ → Op → ℕ
calls_of g k (Op.Waker (WakerOp.CallAwaiter f a l)) = cond (g == f) (same k l) 0
calls_of g k _ = 0

-- what the parties have still to do with the handle of g and its awaiter
pub record Awaiting : Type 0 where
  pub handling : ℕ
  pub looks : ℕ
  pub fresh : ℕ
  pub storing : ℕ
  pub again : ℕ
  pub waits : ℕ
  pub over : ℕ
  pub notices : ℕ
  pub notifying : ℕ
  pub mine : ℕ
  pub detaches : ℕ
  pub lending : ℕ
  pub strays : ℕ → ℕ
  pub calls : ℕ → ℕ

abbrev pub with_awaiting : ℕ → List Op → Awaiting → Awaiting
with_awaiting g os r = record {
  handling = weigh (handling_of g) os + r.handling;
  looks = weigh (looks_of g) os + r.looks;
  fresh = weigh (fresh_of g) os + r.fresh;
  storing = weigh (storing_of g) os + r.storing;
  again = weigh (again_of g) os + r.again;
  waits = weigh (waits_of g) os + r.waits;
  over = weigh (over_of g) os + r.over;
  notices = weigh (notices_of g) os + r.notices;
  notifying = weigh (notifying_of g) os + r.notifying;
  mine = weigh (mine_of g) os + r.mine;
  detaches = weigh (detaches_of g) os + r.detaches;
  lending = weigh (lending_of g) os + r.lending;
  strays = λ k. weigh (strays_of g k) os + r.strays k;
  calls = λ k. weigh (calls_of g k) os + r.calls k;
}

abbrev pub awaiting : ℕ → List (List Op) → Awaiting
awaiting g ss = record {
  handling = weigh_all (handling_of g) ss;
  looks = weigh_all (looks_of g) ss;
  fresh = weigh_all (fresh_of g) ss;
  storing = weigh_all (storing_of g) ss;
  again = weigh_all (again_of g) ss;
  waits = weigh_all (waits_of g) ss;
  over = weigh_all (over_of g) ss;
  notices = weigh_all (notices_of g) ss;
  notifying = weigh_all (notifying_of g) ss;
  mine = weigh_all (mine_of g) ss;
  detaches = weigh_all (detaches_of g) ss;
  lending = weigh_all (lending_of g) ss;
  strays = λ k. weigh_all (strays_of g k) ss;
  calls = λ k. weigh_all (calls_of g k) ss;
}

-- what the executor's drop does after a wake is none of it
pub with_awaiting-closing : (g : ℕ) (xs : List Op) (rest : List ℕ) (r : Awaiting) →
    with_awaiting g (xs ++ closing_ops [] rest) r ≡ with_awaiting g xs r
with_awaiting-closing g xs rest r =
    let strays : (λ k. weigh (strays_of g k) (xs ++ closing_ops [] rest) + r.strays k)
    ≡ (λ k. weigh (strays_of g k) xs + r.strays k) =
    fun_ext (λ k. ap (λ n. n + r.strays k) (weigh-closing (strays_of g k) xs rest refl refl)) in
    let calls : (λ k. weigh (calls_of g k) (xs ++ closing_ops [] rest) + r.calls k)
    ≡ (λ k. weigh (calls_of g k) xs + r.calls k) =
    fun_ext (λ k. ap (λ n. n + r.calls k) (weigh-closing (calls_of g k) xs rest refl refl)) in
    rw (
      weigh-closing (handling_of g) xs rest refl refl,
      weigh-closing (looks_of g) xs rest refl refl,
      weigh-closing (fresh_of g) xs rest refl refl,
      weigh-closing (storing_of g) xs rest refl refl,
      weigh-closing (again_of g) xs rest refl refl,
      weigh-closing (waits_of g) xs rest refl refl,
      weigh-closing (over_of g) xs rest refl refl,
      weigh-closing (notices_of g) xs rest refl refl,
      weigh-closing (notifying_of g) xs rest refl refl,
      weigh-closing (mine_of g) xs rest refl refl,
      weigh-closing (detaches_of g) xs rest refl refl,
      weigh-closing (lending_of g) xs rest refl refl,
      strays,
      calls,
    )
    refl

-- and so it is of a leak
pub with_awaiting-leaking : (g : ℕ) (xs : List Op) (rest : List ℕ) (r : Awaiting) →
    with_awaiting g (xs ++ leaking_ops rest) r ≡ with_awaiting g xs r
with_awaiting-leaking g xs rest r =
    let strays : (λ k. weigh (strays_of g k) (xs ++ leaking_ops rest) + r.strays k)
    ≡ (λ k. weigh (strays_of g k) xs + r.strays k) =
    fun_ext (λ k. ap (λ n. n + r.strays k) (weigh-leaking (strays_of g k) xs rest refl)) in
    let calls : (λ k. weigh (calls_of g k) (xs ++ leaking_ops rest) + r.calls k)
    ≡ (λ k. weigh (calls_of g k) xs + r.calls k) =
    fun_ext (λ k. ap (λ n. n + r.calls k) (weigh-leaking (calls_of g k) xs rest refl)) in
    rw (
      weigh-leaking (handling_of g) xs rest refl,
      weigh-leaking (looks_of g) xs rest refl,
      weigh-leaking (fresh_of g) xs rest refl,
      weigh-leaking (storing_of g) xs rest refl,
      weigh-leaking (again_of g) xs rest refl,
      weigh-leaking (waits_of g) xs rest refl,
      weigh-leaking (over_of g) xs rest refl,
      weigh-leaking (notices_of g) xs rest refl,
      weigh-leaking (notifying_of g) xs rest refl,
      weigh-leaking (mine_of g) xs rest refl,
      weigh-leaking (detaches_of g) xs rest refl,
      weigh-leaking (lending_of g) xs rest refl,
      strays,
      calls,
    )
    refl

-- what is used of that which holds of g
pub record Footing (w : World) (g : ℕ) (p : Pend) (x : Awaiting) : Type 0 where
  pub one : tokens w g p ≤ 1
  pub live : 1 ≤ queued w g + (p.waiting + (p.polls + (p.ending + p.ready))) → (task w g).completed ≡ false
  pub ends : 1 ≤ p.closing + (p.settling + p.giving) → ((task w g).closed ≡ true) ⊎ ((task w g).completed ≡ true)
  pub drop : 1 ≤ p.drops → ((task w g).closed ≡ true) ⊎ (((task w g).completed ≡ true) ⊎ (1 ≤ p.ready))
  pub carries : 1 ≤ queued w g + p.waiting → (task w g).scheduled ≡ true
  pub rests : (task w g).completed ≡ true → ((task w g).scheduled ≡ false) × ((task w g).running ≡ false)
  pub lent : w.gone ≡ true → p.borrowing ≡ 0
  pub done : (heard g w.trace).dropped ≡ true →
      ((task w g).closed ≡ true) ⊎ (((task w g).completed ≡ true) ⊎ ((1 ≤ p.ready) ⊎ (w.gone ≡ true)))
  pub stages : x.looks + (x.fresh + (x.storing + (x.again + (x.waits + x.over)))) ≤ x.handling
  pub few : (k : ℕ) → x.strays k ≤ x.fresh + x.storing
  pub tied : x.mine ≤ x.over

-- whether the stored awaiter is the waker of poll k
abbrev pub kept_at : ℕ → Option Awaiter → ℕ
kept_at k None = 0
kept_at k (Some a) = same k a.poll

-- a poll of the handle that isn't answered, as the trace has it, and how many there are to answer
pub record Mark : Type 0 where
  pub asking : Bool
  pub party : ℕ
  pub inner : ℕ
  pub asks : ℕ

pub record Awaits (w : World) (g : ℕ) (p : Pend) (x : Awaiting) (m : Mark) : Type 0 where
  pub asking : (heard g w.trace).asking ≡ m.asking
  pub party : (heard g w.trace).party ≡ m.party
  pub inner : (heard g w.trace).inner ≡ m.inner
  pub asks : x.fresh + (x.storing + (x.again + (x.waits + x.over))) ≡ m.asks
  -- one call uses the handle at a time
  pub single : x.handling ≤ 1
  pub unlent : x.lending ≡ 0
  pub unborn : length w.tasks ≤ g → x.handling ≡ 0
  pub answered : (heard g w.trace).pending ≡ true → x.fresh + (x.storing + (x.again + (x.waits + x.over))) ≡ 0
  pub comes : x.strays (heard g w.trace).poll ≡ 0
  -- the marks of the awaiter's lock
  pub registers : (task w g).registering ≡ true → 1 ≤ x.storing
  pub registered : 1 ≤ x.storing → (task w g).registering ≡ true
  pub notifies : (task w g).notifying ≡ true → 1 ≤ x.notifying + x.storing
  pub notified : 1 ≤ x.notifying → (task w g).notifying ≡ true
  pub either : x.notifying + x.storing ≤ 1
  -- who waits is stored, called or about to be called, until a call takes the handle
  pub covered : (heard g w.trace).parted ≡ false → ((heard g w.trace).pending ≡ true) ⊎ (1 ≤ x.again + x.waits) →
      (((task w g).awaiter ≡ true) × (1 ≤ kept_at (heard g w.trace).poll (awaiter_of w g)))
      ⊎ (((heard g w.trace).called ≡ true) ⊎ (1 ≤ x.calls (heard g w.trace).poll))
  -- a task with an awaiter isn't settled until that is notified
  pub unsettled : (task w g).handle ≡ true → ((heard g w.trace).pending ≡ true) ⊎ (1 ≤ x.waits) →
      (task w g).awaiter ≡ true →
      (((task w g).completed ≡ false)
      × (((task w g).closed ≡ false) ⊎ (((task w g).scheduled ≡ true) ⊎ ((task w g).running ≡ true))))
      ⊎ (1 ≤ x.notices + x.notifying)
  pub over : (heard g w.trace).dropped ≡ true →
      ((task w g).closed ≡ true)
      ⊎ (((task w g).completed ≡ true)
      ⊎ ((1 ≤ p.ready) ⊎ ((1 ≤ times g w.waking) ⊎ (((task w g).scheduled ≡ true) ⊎ ((task w g).running ≡ true)))))
  pub parts : 1 ≤ x.detaches → (heard g w.trace).parted ≡ true
  pub parted : g < length w.tasks → (task w g).handle ≡ false → (heard g w.trace).parted ≡ true

-- it keeps what holds of g, but for the mark
abbrev pub KeepsBy : World → List Op → Done → (ℕ → Mark → Mark) → Type 0
KeepsBy w old d mark = (g : ℕ) (r : Pend) (y : Awaiting) (m : Mark) →
    Footing w g (with_ops g old r) (with_awaiting g old y) → Awaits w g (with_ops g old r) (with_awaiting g old y) m →
    Awaits d.world g (with_ops g d.next r) (with_awaiting g d.next y) (mark g m)

abbrev pub KeepsAwaits : World → List Op → Done → Type 0
KeepsAwaits w old d = KeepsBy w old d (λ g m. m)

-- a poll of future f's handle begins, by party p
abbrev pub asks_if : Bool → ℕ → ℕ → ℕ → Mark → Mark
asks_if true p f g m = cond (g == f) (record { asking = true; party = p; inner = 0; asks = suc m.asks }) m
asks_if false p f g m = m

-- for grind, which picks it up at the read of a stored awaiter
pub kept_put : (ws : List (Option Awaiter)) (f g k : ℕ) (a : Option Awaiter) → f < length ws →
    (kept_at k (get_or (set ws f a) g None) ≡ kept_at k (get_or (set ws f a) g None))
    × (((same g f ≡ 1) × (g ≡ f) × (kept_at k (get_or (set ws f a) g None) ≡ kept_at k a))
    ⊎ ((same g f ≡ 0) × (g ≢ f) × (kept_at k (get_or (set ws f a) g None) ≡ kept_at k (get_or ws g None))))
kept_put ws f g k a h = (
  refl,
  ⊎_elim
      (λ (x : (same g f ≡ 1) × (eqb g f ≡ true) × (g ≡ f)).
      inl (x.0, x.2, ap (kept_at k) (rw x.2 (get_or-set_same ws f a None h))))
      (λ (x : (same g f ≡ 0) × (eqb g f ≡ false) × (g ≢ f)).
      inr (x.0, x.2, ap (kept_at k) (get_or-set_other ws f g a None x.2)))
      (same_cases g f),
)

pub kept_push : (ws : List (Option Awaiter)) (g k : ℕ) →
    kept_at k (get_or (ws ++ None ∷ []) g None) ≡ kept_at k (get_or ws g None)
kept_push [] zero k = refl
kept_push [] (suc g) k = refl
kept_push (a ∷ ws) zero k = refl
kept_push (a ∷ ws) (suc g) k = kept_push ws g k
