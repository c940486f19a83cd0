-- For wakers_wake_their_own.
-- Waker k stays one of its future, and each call of it wakes that.
use Rattle.std.proofs.Common.{◌≡◌, ◌≢◌, ◌⊎◌, ℕ, ◌<◌, ◌≤◌, List, [], ◌∷◌, ◌++◌, length, set, Bool, true, false, not, eqb, inl}
use Rattle.std.proofs.Common.{inr, ⊎_elim, refl, subst, ap, ◌∙◌, arith}
use Rattle.std.specs.Prelude.{Option, Some, None}
use Rattle.task_moves.specs.Moves.{is_over}
use Rattle.executor_model.proofs.Types.{Move, Reply, Event, Hold, Op, Hint}
use Rattle.executor_model.specs.WakersMean.{HasWokenIts, WakesIts, is_wake}
use Rattle.executor_model.specs.{Calls.Begun, Calls.Ended, CallsMean.MayBeOver, Doing.act, Steps.kept, Trace.Trace, Trace.has}
use Rattle.executor_model.specs.{Trace.is_woken, Weights.same, Weights.weigh, World.World, World.log_if, World.task}
use Rattle.executor_model.proofs.Promises.CallPromises.{has-left, has-right, over-later}
use Rattle.executor_model.proofs.Steps.Lists.{same_cases, weigh-append}
use Rattle.executor_model.proofs.{Promises.CallTold.added, Steps.Tests.or-left}

-- future f is to be woken
abbrev pub wakes_at : ℕ → Op → ℕ
wakes_at f (Op.Move Move.Wake g) = same f g
wakes_at f (Op.Move Move.WakeByReference g) = same f g
wakes_at f _ = 0

-- what a wake by waker k promises, where that is one of this future, or isn't made yet
abbrev pub Promises : Option ℕ → Trace → Trace → List Op → Type 0
Promises None past own os = ⊥
Promises (Some f) past own os = (1 ≤ weigh (wakes_at f) os) ⊎ HasWokenIts f own past

abbrev pub Waking : ℕ → Option ℕ → Trace → Begun → List Op → Type 0
Waking k x past b os = is_wake k b.call ≡ true → Promises x past b.own os

abbrev pub Woke : ℕ → Option ℕ → Ended → Type 0
Woke k None e = is_wake k e.call ≡ true → ⊥
Woke k (Some f) e = WakesIts k f e

promises-later : (x : Option ℕ) (past more own : Trace) (os : List Op) → Promises x past own os →
    Promises x (past ++ more) own os
promises-later None past more own os h = h
promises-later (Some f) past more own os h = ⊎_elim
    (λ (a : 1 ≤ weigh (wakes_at f) os). inl a)
    (λ (a : HasWokenIts f own past). inr (⊎_elim
    (λ (b : has (is_woken f) own ≡ true). inl b)
    (λ (b : MayBeOver f past). inr (over-later f past more b)) a)) h

pub waking-later : (k : ℕ) (x : Option ℕ) (es more : Trace) (b : Begun) (os : List Op) → Waking k x es b os →
    Waking k x (es ++ more) b os
waking-later k x es more b os h n = promises-later x es more b.own os (h n)

pub waking-right : (k : ℕ) (x : Option ℕ) (es : Trace) (b : Begun) (a : Reply) (held : Hold) →
    Waking k x es b (Op.End a held ∷ []) → Woke k x (record { call = b.call; own = b.own; reply = a; past = es })
waking-right k None es b a held h = h
waking-right k (Some f) es b a held h = λ n. ⊎_elim
    (λ (z : 1 ≤ weigh (wakes_at f) (Op.End a held ∷ [])). absurd (omega (arith, z)))
    (λ (z : HasWokenIts f b.own es). z) (h n)

-- a wake that is made

woke-now : (b : Bool) (p f g : ℕ) (w : World) (more now : Trace) → f ≡ g → eqb f g ≡ true → is_over (task w g) ≡ b →
    now ≡ (log_if (not (is_over (task w g))) w (Event.Woken p g)).trace → now ≡ w.trace ++ more →
    (is_over (task w f) ≡ true → MayBeOver f w.trace) → HasWokenIts f more w.trace
woke-now true p f g w more now i j z e t k = inr (k (ap (λ (x : ℕ). is_over (task w x)) i ∙ z))
woke-now false p f g w more now i j z e t k = inl (subst (λ (x : Trace). has (is_woken f) x ≡ true)
    (added w.trace more (Event.Woken p g ∷ []) now t
    (e ∙ ap (λ (b : Bool). (log_if (not b) w (Event.Woken p g)).trace) z)) (or-left (eqb f g) false j))

pub wakes-now : (p : ℕ) (h : Hint) (o : Op) (w : World) (f : ℕ) (more : Trace) →
    (is_over (task w f) ≡ true → MayBeOver f w.trace) → (act p h o w).world.trace ≡ w.trace ++ more →
    (wakes_at f o ≡ 0) ⊎ HasWokenIts f more w.trace
wakes-now p h (Op.Move Move.Wake g) w f more k t = ⊎_elim
    (λ (x : (same f g ≡ 1) × (eqb f g ≡ true) × (f ≡ g)).
    inr (woke-now (is_over (task w g)) p f g w more _ x.2 x.1 refl refl t k))
    (λ (x : (same f g ≡ 0) × (eqb f g ≡ false) × (f ≢ g)). inl x.0) (same_cases f g)
wakes-now p h (Op.Move Move.WakeByReference g) w f more k t = ⊎_elim
    (λ (x : (same f g ≡ 1) × (eqb f g ≡ true) × (f ≡ g)).
    inr (woke-now (is_over (task w g)) p f g w more _ x.2 x.1 refl refl t k))
    (λ (x : (same f g ≡ 0) × (eqb f g ≡ false) × (f ≢ g)). inl x.0) (same_cases f g)
wakes-now p h _ w f more k t = inl refl

-- so a thing that is done keeps the promise
pub promises-on : (x : Option ℕ) (past own more : Trace) (o : Op) (below next : List Op) →
    ((f : ℕ) → (wakes_at f o ≡ 0) ⊎ HasWokenIts f more past) → Promises x past own (o ∷ below) →
    Promises x (past ++ more) (own ++ more) (next ++ below)
promises-on None past own more o below next k h = h
promises-on (Some f) past own more o below next k h = ⊎_elim
    (λ (a : 1 ≤ weigh (wakes_at f) (o ∷ below)). ⊎_elim
    (λ (z : wakes_at f o ≡ 0). inl (omega (arith, z, a, weigh-append (wakes_at f) next below)))
    (λ (z : HasWokenIts f more past). inr (⊎_elim
    (λ (b : has (is_woken f) more ≡ true). inl (has-right (is_woken f) own more b))
    (λ (b : MayBeOver f past). inr (over-later f past more b)) z)) (k f))
    (λ (a : HasWokenIts f own past). inr (⊎_elim
    (λ (b : has (is_woken f) own ≡ true). inl (has-left (is_woken f) own more b))
    (λ (b : MayBeOver f past). inr (over-later f past more b)) a)) h

-- the waker itself

abbrev pub Knows : World → ℕ → Option ℕ → Type 0
Knows w k None = length w.wakers ≤ k
Knows w k (Some f) = (k < length w.wakers) × ((kept w k ≡ Some f) ⊎ (kept w k ≡ None))

-- how the kept wakers change: not, or one more is there, or one is used up
pub data Turned (w v : World) : Type 0 where
  still : v.wakers ≡ w.wakers → Turned w v
  made : (g : ℕ) → v.wakers ≡ w.wakers ++ Some g ∷ [] → Turned w v
  used : (j : ℕ) → v.wakers ≡ set w.wakers j None → Turned w v

-- where it wasn't made yet, it may be now
abbrev pub Follows : Option ℕ → Option ℕ → Type 0
Follows None y = Unit {0}
Follows (Some f) y = y ≡ Some f

pub record Next (w v : World) (k : ℕ) (x : Option ℕ) : Type 0 where
  pub now : Option ℕ
  pub follows : Follows x now
  pub knows : Knows v k now
