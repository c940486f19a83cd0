-- For calls_do_what_they_say.
-- Calls do what they say: what the frame of each call still promises, kept by one thing that is done.
pub use Rattle.executor_model.proofs.Promises.CallServes.{spawns, tries, asks, copies, polls_handle, makes_tick, makes_run}
pub use Rattle.executor_model.proofs.Promises.CallServes.{polls, polls_run}
pub use Rattle.executor_model.proofs.Promises.CallServes.{polls_by, leaves, serves_section, serves_list, serves_run}
pub use Rattle.executor_model.proofs.Promises.CallServes.{serves_tick, serves_handle, serves, misfit}
use Rattle.std.proofs.Common.{◌≡◌, ◌⊎◌, ◌∙◌, ℕ, ◌+◌, ◌≤◌, List, [], ◌∷◌, ◌++◌, Bool, true, false, cond, inl, inr, ⊎_elim, refl}
use Rattle.std.{proofs.Common.arith, proofs.lemmas.List.Folds.list_any-append}
use Rattle.executor_model.proofs.Types.{Move, Call, Reply, Event, HandleOp, Hold, Op, TableOp, UserOp, ClosingOp}
use Rattle.executor_model.specs.CallsMean.{HasAccepted, HasCancelled, HasDetached, HasPolled, HasTaken, HasWoken, IsWhatItSays}
use Rattle.executor_model.specs.Trace.{Trace, has, is_cancelled, is_detached, is_drop_begun, is_drop_ended, is_dropped, is_poll}
use Rattle.executor_model.specs.Trace.{is_ready, is_woken, is_last_waker}
use Rattle.executor_model.specs.{AwaiterKept.is_handle_poll, Calls.Begun, CallsMean.MayBeOver, CallsMean.is_reply}
use Rattle.executor_model.specs.{OutputOnce.is_output_given, Weights.same, Weights.weigh}
use Rattle.executor_model.proofs.Steps.Tests.{or-left, or-right}
use Rattle.executor_model.proofs.{OneFuture.Extras.detaches_of, Steps.Lists.weigh-append}

-- a call that ends so
abbrev pub made_of : Op → ℕ
made_of (Op.End Reply.Made held) = 1
made_of _ = 0

abbrev pub ready_of : Op → ℕ
ready_of (Op.End Reply.Ready held) = 1
ready_of _ = 0

-- a poll of a handle that was told of
abbrev pub told_of : Op → ℕ
told_of (Op.Handle (HandleOp.Register f a k)) = 1
told_of (Op.Handle (HandleOp.EndRegister f a k)) = 1
told_of (Op.Handle (HandleOp.LookAgain f)) = 1
told_of (Op.End Reply.Pending held) = 1
told_of (Op.End Reply.Ready held) = 1
told_of (Op.End Reply.Cancelled held) = 1
told_of _ = 0

-- future f is to be cancelled
abbrev pub cancels_of : ℕ → Op → ℕ
cancels_of f (Op.Move Move.Cancel g) = same f g
cancels_of f _ = 0

abbrev pub yes_of : Op → ℕ
yes_of (Op.End Reply.Yes held) = 1
yes_of _ = 0

-- a future is to be taken up, or, as its task is closed, dropped
abbrev pub taking_of : Op → ℕ
taking_of (Op.Move Move.TakeUp f) = 1
taking_of (Op.Table (TableOp.TakeToDrop f)) = 1
taking_of (Op.User (UserOp.BeginDrop f)) = 1
taking_of _ = 0

-- a task is to be woken
abbrev pub wakes_of : Op → ℕ
wakes_of (Op.Move Move.Wake f) = 1
wakes_of (Op.Move Move.WakeByReference f) = 1
wakes_of _ = 0

-- the drop of the executor goes on
abbrev pub closes_of : Op → ℕ
closes_of (Op.Closing ClosingOp.LeakOut) = 0
closes_of (Op.Closing ClosingOp.LeakNext) = 0
closes_of (Op.Closing o) = 1
closes_of _ = 0

abbrev pub WakePromised : Trace → Trace → List Op → Type 0
WakePromised past own os = (1 ≤ weigh wakes_of os) ⊎ HasWoken own past

-- what a call that has done this promises by what it has still to do
abbrev pub Promised : Call → Trace → Trace → List Op → Type 0
Promised (Call.Spawn mark) past own os = 1 ≤ weigh made_of os → HasAccepted own
Promised Call.TryTick past own os = 1 ≤ weigh yes_of os → (1 ≤ weigh taking_of os) ⊎ HasTaken own
Promised (Call.PollTick t b) past own os = 1 ≤ weigh ready_of os → (1 ≤ weigh taking_of os) ⊎ HasTaken own
Promised (Call.Wake k) past own os = WakePromised past own os
Promised (Call.WakeByRef k) past own os = WakePromised past own os
Promised Call.WakeSelf past own os = WakePromised past own os
Promised Call.DropExecutor past own os = (has is_drop_begun own ≡ true)
    × ((1 ≤ weigh closes_of os) ⊎ (has is_drop_ended own ≡ true))
Promised (Call.PollHandle f b) past own os = (1 ≤ weigh ready_of os → has (is_output_given f) own ≡ true)
    × (1 ≤ weigh told_of os → HasPolled f own)
Promised (Call.Cancel f) past own os = (1 ≤ weigh (cancels_of f) os) ⊎ HasCancelled f own past
Promised (Call.Detach f) past own os = (1 ≤ weigh (detaches_of f) os) ⊎ HasDetached f own
Promised (Call.DropHandle f) past own os = ((1 ≤ weigh (cancels_of f) os) ⊎ HasCancelled f own past)
    × ((1 ≤ weigh (detaches_of f) os) ⊎ HasDetached f own)
Promised _ past own os = Unit {0}

pub record Owes (past : Trace) (b : Begun) (os : List Op) : Type 0 where
  pub fits : weigh (misfit b.call) os ≡ 0
  pub promised : Promised b.call past b.own os

-- what is told of stays told

pub has-left : (t : Event → Bool) (xs ys : Trace) → has t xs ≡ true → has t (xs ++ ys) ≡ true
has-left t xs ys e = list_any-append t xs ys ∙ or-left (has t xs) (has t ys) e

pub has-right : (t : Event → Bool) (xs ys : Trace) → has t ys ≡ true → has t (xs ++ ys) ≡ true
has-right t xs ys e = list_any-append t xs ys ∙ or-right (has t xs) (has t ys) e

pub over-later : (f : ℕ) (xs ys : Trace) → MayBeOver f xs → MayBeOver f (xs ++ ys)
over-later f xs ys h = ⊎_elim
    (λ (a : has (is_ready f) xs ≡ true). inl (has-left (is_ready f) xs ys a))
    (λ (b : (has (is_cancelled f) xs ≡ true) ⊎ ((has (is_last_waker f) xs ≡ true) ⊎ (has is_drop_begun xs ≡ true))).
    inr (⊎_elim
    (λ (a : has (is_cancelled f) xs ≡ true). inl (has-left (is_cancelled f) xs ys a))
    (λ (c : (has (is_last_waker f) xs ≡ true) ⊎ (has is_drop_begun xs ≡ true)). inr (⊎_elim
    (λ (a : has (is_last_waker f) xs ≡ true). inl (has-left (is_last_waker f) xs ys a))
    (λ (a : has is_drop_begun xs ≡ true). inr (has-left is_drop_begun xs ys a)) c)) b)) h

cancelled-later : (f : ℕ) (own past more : Trace) → HasCancelled f own past → HasCancelled f own (past ++ more)
cancelled-later f own past more h = ⊎_elim
    (λ (a : has (is_cancelled f) own ≡ true). inl a)
    (λ (a : MayBeOver f past). inr (over-later f past more a)) h

cancelled-more : (f : ℕ) (own past more : Trace) → HasCancelled f own past →
    HasCancelled f (own ++ more) (past ++ more)
cancelled-more f own past more h = ⊎_elim
    (λ (a : has (is_cancelled f) own ≡ true). inl (has-left (is_cancelled f) own more a))
    (λ (a : MayBeOver f past). inr (over-later f past more a)) h

cancelled-now : (f : ℕ) (own past more : Trace) → HasCancelled f more past → HasCancelled f (own ++ more) (past ++ more)
cancelled-now f own past more h = ⊎_elim
    (λ (a : has (is_cancelled f) more ≡ true). inl (has-right (is_cancelled f) own more a))
    (λ (a : MayBeOver f past). inr (over-later f past more a)) h

woken-later : (own past more : Trace) → HasWoken own past → HasWoken own (past ++ more)
woken-later own past more h = (
  h.0,
  ⊎_elim
      (λ (a : has (is_woken h.0) own ≡ true). inl a)
      (λ (a : MayBeOver h.0 past). inr (over-later h.0 past more a)) h.1,
)

woken-more : (own past more : Trace) → HasWoken own past → HasWoken (own ++ more) (past ++ more)
woken-more own past more h = (
  h.0,
  ⊎_elim
      (λ (a : has (is_woken h.0) own ≡ true). inl (has-left (is_woken h.0) own more a))
      (λ (a : MayBeOver h.0 past). inr (over-later h.0 past more a)) h.1,
)

woken-now : (own past more : Trace) → HasWoken more past → HasWoken (own ++ more) (past ++ more)
woken-now own past more h = (
  h.0,
  ⊎_elim
      (λ (a : has (is_woken h.0) more ≡ true). inl (has-right (is_woken h.0) own more a))
      (λ (a : MayBeOver h.0 past). inr (over-later h.0 past more a)) h.1,
)

taken-left : (xs ys : Trace) → HasTaken xs → HasTaken (xs ++ ys)
taken-left xs ys h = (
  h.0,
  ⊎_elim
      (λ (a : has (is_poll h.0) xs ≡ true). inl (has-left (is_poll h.0) xs ys a))
      (λ (a : has (is_dropped h.0) xs ≡ true). inr (has-left (is_dropped h.0) xs ys a)) h.1,
)

taken-right : (xs ys : Trace) → HasTaken ys → HasTaken (xs ++ ys)
taken-right xs ys h = (
  h.0,
  ⊎_elim
      (λ (a : has (is_poll h.0) ys ≡ true). inl (has-right (is_poll h.0) xs ys a))
      (λ (a : has (is_dropped h.0) ys ≡ true). inr (has-right (is_dropped h.0) xs ys a)) h.1,
)

wake-later : (past more own : Trace) (os : List Op) → WakePromised past own os → WakePromised (past ++ more) own os
wake-later past more own os h = ⊎_elim
    (λ (a : 1 ≤ weigh wakes_of os). inl a)
    (λ (a : HasWoken own past). inr (woken-later own past more a)) h

promised-later : (c : Call) (past more own : Trace) (os : List Op) → Promised c past own os →
    Promised c (past ++ more) own os
promised-later (Call.Spawn mark) past more own os h = h
promised-later Call.TryTick past more own os h = h
promised-later (Call.PollTick t b) past more own os h = h
promised-later (Call.Wake k) past more own os h = wake-later past more own os h
promised-later (Call.WakeByRef k) past more own os h = wake-later past more own os h
promised-later Call.WakeSelf past more own os h = wake-later past more own os h
promised-later Call.DropExecutor past more own os h = h
promised-later (Call.PollHandle f b) past more own os h = h
promised-later (Call.Cancel f) past more own os h = ⊎_elim
    (λ (a : 1 ≤ weigh (cancels_of f) os). inl a)
    (λ (a : HasCancelled f own past). inr (cancelled-later f own past more a)) h
promised-later (Call.Detach f) past more own os h = h
promised-later (Call.DropHandle f) past more own os h = (
  ⊎_elim
      (λ (a : 1 ≤ weigh (cancels_of f) os). inl a)
      (λ (a : HasCancelled f own past). inr (cancelled-later f own past more a)) h.0,
  h.1,
)
promised-later _ past more own os h = tt

pub owes-later : (past more : Trace) (b : Begun) (os : List Op) → Owes past b os → Owes (past ++ more) b os
owes-later past more b os h =
    record { fits = h.fits; promised = promised-later b.call past more b.own os h.promised }

-- what one thing that is done owes of each promise, where it adds more to the trace and leads to next

abbrev pub WakeTurns : Trace → Trace → Op → List Op → Type 0
WakeTurns past more o next = (wakes_of o ≤ weigh wakes_of next) ⊎ HasWoken more past

abbrev pub Turns : Call → Trace → Trace → Op → List Op → Type 0
Turns (Call.Spawn mark) past more o next = (weigh made_of next ≡ 0) ⊎ HasAccepted more
Turns Call.TryTick past more o next = ((weigh yes_of next ≡ 0) ⊎ (1 ≤ weigh taking_of next))
    × ((taking_of o ≤ weigh taking_of next) ⊎ HasTaken more)
Turns (Call.PollTick t b) past more o next = ((weigh ready_of next ≡ 0) ⊎ (1 ≤ weigh taking_of next))
    × ((taking_of o ≤ weigh taking_of next) ⊎ HasTaken more)
Turns (Call.Wake k) past more o next = WakeTurns past more o next
Turns (Call.WakeByRef k) past more o next = WakeTurns past more o next
Turns Call.WakeSelf past more o next = WakeTurns past more o next
Turns Call.DropExecutor past more o next = (closes_of o ≤ weigh closes_of next) ⊎ (has is_drop_ended more ≡ true)
Turns (Call.PollHandle f b) past more o next =
    ((weigh ready_of next ≡ 0) ⊎ (has (is_output_given f) more ≡ true))
    × ((weigh told_of next ≤ told_of o) ⊎ HasPolled f more)
Turns (Call.Cancel f) past more o next = (cancels_of f o ≤ weigh (cancels_of f) next) ⊎ HasCancelled f more past
Turns (Call.Detach f) past more o next = (detaches_of f o ≤ weigh (detaches_of f) next) ⊎ HasDetached f more
Turns (Call.DropHandle f) past more o next =
    ((cancels_of f o ≤ weigh (cancels_of f) next) ⊎ HasCancelled f more past)
    × ((detaches_of f o ≤ weigh (detaches_of f) next) ⊎ HasDetached f more)
Turns _ past more o next = Unit {0}

-- something is there in the end where a count says so
module _ (v : Op → ℕ) (A : Trace → Type 0) (left : (xs ys : Trace) → A xs → A (xs ++ ys))
    (right : (xs ys : Trace) → A ys → A (xs ++ ys)) where
  arises : (own more : Trace) (o : Op) (rest next : List Op) → (weigh v next ≡ 0) ⊎ A more →
      (1 ≤ weigh v (o ∷ rest) → A own) → 1 ≤ weigh v (next ++ rest) → A (own ++ more)
  arises own more o rest next t h k = ⊎_elim
      (λ (z : weigh v next ≡ 0). left own more (h (omega (arith, z, k, weigh-append v next rest))))
      (λ (a : A more). right own more a) t

  stays-told : (own more : Trace) (o : Op) (rest next : List Op) → (weigh v next ≤ v o) ⊎ A more →
      (1 ≤ weigh v (o ∷ rest) → A own) → 1 ≤ weigh v (next ++ rest) → A (own ++ more)
  stays-told own more o rest next t h k = ⊎_elim
      (λ (z : weigh v next ≤ v o). left own more (h (omega (arith, z, k, weigh-append v next rest))))
      (λ (a : A more). right own more a) t

cancel-turns : (f : ℕ) (past own more : Trace) (o : Op) (rest next : List Op) →
    (cancels_of f o ≤ weigh (cancels_of f) next) ⊎ HasCancelled f more past →
    (1 ≤ weigh (cancels_of f) (o ∷ rest)) ⊎ HasCancelled f own past →
    (1 ≤ weigh (cancels_of f) (next ++ rest)) ⊎ HasCancelled f (own ++ more) (past ++ more)
cancel-turns f past own more o rest next t h = ⊎_elim
    (λ (a : 1 ≤ weigh (cancels_of f) (o ∷ rest)). ⊎_elim
    (λ (z : cancels_of f o ≤ weigh (cancels_of f) next).
    inl (omega (arith, z, a, weigh-append (cancels_of f) next rest)))
    (λ (x : HasCancelled f more past). inr (cancelled-now f own past more x)) t)
    (λ (a : HasCancelled f own past). inr (cancelled-more f own past more a)) h

detach-turns : (f : ℕ) (own more : Trace) (o : Op) (rest next : List Op) →
    (detaches_of f o ≤ weigh (detaches_of f) next) ⊎ HasDetached f more →
    (1 ≤ weigh (detaches_of f) (o ∷ rest)) ⊎ HasDetached f own →
    (1 ≤ weigh (detaches_of f) (next ++ rest)) ⊎ HasDetached f (own ++ more)
detach-turns f own more o rest next t h = ⊎_elim
    (λ (a : 1 ≤ weigh (detaches_of f) (o ∷ rest)). ⊎_elim
    (λ (z : detaches_of f o ≤ weigh (detaches_of f) next).
    inl (omega (arith, z, a, weigh-append (detaches_of f) next rest)))
    (λ (x : HasDetached f more). inr (has-right (is_detached f) own more x)) t)
    (λ (a : HasDetached f own). inr (has-left (is_detached f) own more a)) h

wake-turns : (past own more : Trace) (o : Op) (rest next : List Op) → WakeTurns past more o next →
    WakePromised past own (o ∷ rest) → WakePromised (past ++ more) (own ++ more) (next ++ rest)
wake-turns past own more o rest next t h = ⊎_elim
    (λ (a : 1 ≤ weigh wakes_of (o ∷ rest)). ⊎_elim
    (λ (z : wakes_of o ≤ weigh wakes_of next). inl (omega (arith, z, a, weigh-append wakes_of next rest)))
    (λ (x : HasWoken more past). inr (woken-now own past more x)) t)
    (λ (a : HasWoken own past). inr (woken-more own past more a)) h

-- two things that are to be done, or were
kept-up : (v : Op → ℕ) (A : Trace → Type 0) (left : (xs ys : Trace) → A xs → A (xs ++ ys))
    (right : (xs ys : Trace) → A ys → A (xs ++ ys)) (own more : Trace) (o : Op) (rest next : List Op) →
    (v o ≤ weigh v next) ⊎ A more → (1 ≤ weigh v (o ∷ rest)) ⊎ A own → (1 ≤ weigh v (next ++ rest)) ⊎ A (own ++ more)
kept-up v A left right own more o rest next t h = ⊎_elim
    (λ (a : 1 ≤ weigh v (o ∷ rest)). ⊎_elim
    (λ (z : v o ≤ weigh v next). inl (omega (arith, z, a, weigh-append v next rest)))
    (λ (x : A more). inr (right own more x)) t)
    (λ (a : A own). inr (left own more a)) h

take-turns : (v : Op → ℕ) (own more : Trace) (o : Op) (rest next : List Op) →
    ((weigh v next ≡ 0) ⊎ (1 ≤ weigh taking_of next)) × ((taking_of o ≤ weigh taking_of next) ⊎ HasTaken more) →
    (1 ≤ weigh v (o ∷ rest) → (1 ≤ weigh taking_of (o ∷ rest)) ⊎ HasTaken own) →
    1 ≤ weigh v (next ++ rest) → (1 ≤ weigh taking_of (next ++ rest)) ⊎ HasTaken (own ++ more)
take-turns v own more o rest next t h k = ⊎_elim
    (λ (z : weigh v next ≡ 0).
    kept-up taking_of HasTaken taken-left taken-right own more o rest next t.1
    (h (omega (arith, z, k, weigh-append v next rest))))
    (λ (a : 1 ≤ weigh taking_of next). inl (omega (arith, a, weigh-append taking_of next rest))) t.0

accepted-left : (xs ys : Trace) → HasAccepted xs → HasAccepted (xs ++ ys)
accepted-left xs ys a = (a.0, has-left _ xs ys a.1)

accepted-right : (xs ys : Trace) → HasAccepted ys → HasAccepted (xs ++ ys)
accepted-right xs ys a = (a.0, has-right _ xs ys a.1)

pub promised-on : (c : Call) (past own more : Trace) (o : Op) (rest next : List Op) → Turns c past more o next →
    Promised c past own (o ∷ rest) → Promised c (past ++ more) (own ++ more) (next ++ rest)
promised-on (Call.Spawn mark) past own more o rest next t h =
    arises made_of HasAccepted accepted-left accepted-right own more o rest next t h
promised-on Call.TryTick past own more o rest next t h = take-turns yes_of own more o rest next t h
promised-on (Call.PollTick i b) past own more o rest next t h = take-turns ready_of own more o rest next t h
promised-on (Call.Wake k) past own more o rest next t h = wake-turns past own more o rest next t h
promised-on (Call.WakeByRef k) past own more o rest next t h = wake-turns past own more o rest next t h
promised-on Call.WakeSelf past own more o rest next t h = wake-turns past own more o rest next t h
promised-on Call.DropExecutor past own more o rest next t h = (
  has-left is_drop_begun own more h.0,
  kept-up closes_of (λ xs. has is_drop_ended xs ≡ true) (has-left is_drop_ended) (has-right is_drop_ended) own more o
      rest next t h.1,
)
promised-on (Call.PollHandle f b) past own more o rest next t h = (
  arises ready_of (λ xs. has (is_output_given f) xs ≡ true) (has-left (is_output_given f))
      (has-right (is_output_given f)) own more o rest next t.0 h.0,
  stays-told told_of (HasPolled f) (has-left (is_handle_poll f)) (has-right (is_handle_poll f)) own more o rest next
      t.1 h.1,
)
promised-on (Call.Cancel f) past own more o rest next t h = cancel-turns f past own more o rest next t h
promised-on (Call.Detach f) past own more o rest next t h = detach-turns f own more o rest next t h
promised-on (Call.DropHandle f) past own more o rest next t h =
    (cancel-turns f past own more o rest next t.0 h.0, detach-turns f own more o rest next t.1 h.1)
promised-on _ past own more o rest next t h = tt

-- so a thing that is done keeps what the frame owes
pub owes-on : (past more : Trace) (b : Begun) (o : Op) (rest next : List Op) →
    (misfit b.call o ≡ 0 → weigh (misfit b.call) next ≡ 0) → Turns b.call past more o next → Owes past b (o ∷ rest) →
    Owes (past ++ more) (record b { own = b.own ++ more }) (next ++ rest)
owes-on past more b o rest next k t h = record {
  fits = omega (arith, weigh-append (misfit b.call) next rest, k (omega (arith, h.fits)), h.fits);
  promised = promised-on b.call past b.own more o rest next t h.promised;
}

-- where a call's end is all that is left, it did what it says

served : (b : Bool) → cond b 0 1 + 0 ≡ 0 → b ≡ true
served true e = refl
served false e = absurd (omega (arith, e))

pub kind-right : (past : Trace) (b : Begun) (a : Reply) (held : Hold) → Owes past b (Op.End a held ∷ []) →
    is_reply b.call a ≡ true
kind-right past b a held h = served (is_reply b.call a) h.fits

cancel-right : (f : ℕ) (own past : Trace) (a : Reply) (held : Hold) →
    (1 ≤ weigh (cancels_of f) (Op.End a held ∷ [])) ⊎ HasCancelled f own past → HasCancelled f own past
cancel-right f own past a held h = ⊎_elim
    (λ (x : 1 ≤ weigh (cancels_of f) (Op.End a held ∷ [])). absurd (omega (arith, x)))
    (λ (x : HasCancelled f own past). x) h

detach-right : (f : ℕ) (own : Trace) (a : Reply) (held : Hold) →
    (1 ≤ weigh (detaches_of f) (Op.End a held ∷ [])) ⊎ HasDetached f own → HasDetached f own
detach-right f own a held h = ⊎_elim
    (λ (x : 1 ≤ weigh (detaches_of f) (Op.End a held ∷ [])). absurd (omega (arith, x)))
    (λ (x : HasDetached f own). x) h

wake-right : (own past : Trace) (a : Reply) (held : Hold) → WakePromised past own (Op.End a held ∷ []) →
    HasWoken own past
wake-right own past a held h = ⊎_elim
    (λ (x : 1 ≤ weigh wakes_of (Op.End a held ∷ [])). absurd (omega (arith, x)))
    (λ (x : HasWoken own past). x) h

pub done-right : (c : Call) (a : Reply) (held : Hold) (past own : Trace) → Promised c past own (Op.End a held ∷ []) →
    IsWhatItSays c a own past
done-right (Call.Spawn mark) Reply.Made held past own h = h (omega arith)
done-right Call.TryTick Reply.Yes held past own h = ⊎_elim
    (λ (x : 1 ≤ weigh taking_of (Op.End Reply.Yes held ∷ [])). absurd (omega (arith, x)))
    (λ (x : HasTaken own). x) (h (omega arith))
done-right (Call.PollTick t b) Reply.Ready held past own h = ⊎_elim
    (λ (x : 1 ≤ weigh taking_of (Op.End Reply.Ready held ∷ [])). absurd (omega (arith, x)))
    (λ (x : HasTaken own). x) (h (omega arith))
done-right (Call.Wake k) a held past own h = wake-right own past a held h
done-right (Call.WakeByRef k) a held past own h = wake-right own past a held h
done-right Call.WakeSelf a held past own h = wake-right own past a held h
done-right Call.DropExecutor a held past own h = (
  h.0,
  ⊎_elim
      (λ (x : 1 ≤ weigh closes_of (Op.End a held ∷ [])). absurd (omega (arith, x)))
      (λ (x : has is_drop_ended own ≡ true). x) h.1,
)
done-right (Call.PollHandle f b) Reply.Ready held past own h = (h.0 (omega arith), h.1 (omega arith))
done-right (Call.PollHandle f b) Reply.Pending held past own h = h.1 (omega arith)
done-right (Call.PollHandle f b) Reply.Cancelled held past own h = h.1 (omega arith)
done-right (Call.Cancel f) a held past own h = cancel-right f own past a held h
done-right (Call.Detach f) a held past own h = detach-right f own a held h
done-right (Call.DropHandle f) a held past own h =
    (cancel-right f own past a held h.0, detach-right f own a held h.1)
done-right _ _ held past own h = tt
