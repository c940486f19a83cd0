-- For some_standing_is_called.
-- Each stage of a poll uses its tick or run, and what doesn't use it is nothing to it.
use Rattle.std.proofs.Common.{◌≡◌, ◌≢◌, ℕ, ◌+◌, ◌==◌, ◌≤◌, List, [], ◌∷◌, ◌++◌, Bool, true, false, ◌||◌, cond, refl, arith}
use Rattle.executor_laws.proofs.Types.{UserOp, Waker, WakerOp, Look, Reply, Hold, ListOp, Op, RunOp, RunPoll, Section}
use Rattle.executor_model.specs.Weights.{same, weigh}
use Rattle.executor_model.proofs.Steps.SleepersCounting.{asleep}
use Rattle.executor_model.proofs.{Steps.Lists.weigh-append, OwnQueues.RunsDone.poll_in, OneFuture.Telling.one-stray}
use Rattle.executor_laws.proofs.Wakeups.Stands.{is_ready, is_answer, used_of, early_of, pends_of, refused_of, found_of, ends_of}
use Rattle.executor_laws.proofs.Wakeups.Stands.{waking_up_of, drops_of, drops_who, odd_look, odd_of, strays_of, calls_of, Doing}
use Rattle.executor_laws.proofs.Wakeups.Stands.{early_section, used_section, strays_section, stray, with_doing, Nothing}
use Rattle.executor_laws.proofs.Wakeups.Sitting.{cond-other, eq_who, holds_it, is-cond, is_it, other}
use Rattle.executor_laws.proofs.{Types.TickOrRun, Types.SleeperOp, Types.TickOp, Wakeups.Beside.holds_some}
use Rattle.executor_laws.proofs.{Wakeups.Beside.sits_of, Wakeups.Watched.is_pending, Wakeups.Watched.is_refusal}

-- each stage uses it

pub end-parts : (a : Reply) (n : ℕ) →
    n ≡ (0 + (cond (is_pending a) n 0 + (cond (is_refusal a) n 0 + cond (is_ready a) n 0))) + cond (is_answer a) 0 n
end-parts Reply.Pending n = omega arith
end-parts _ n = omega arith

pub cond-few : (b : Bool) (n : ℕ) → cond b n 0 ≤ n
cond-few true n = omega arith
cond-few false n = omega arith

abbrev pub stages_of : TickOrRun → Op → ℕ
stages_of who o = early_of who o + (pends_of who o + (refused_of who o + (found_of who o + ends_of who o)))

section-one : (who : TickOrRun) (s : Section) → early_section who s ≤ used_section who s
section-one who Section.MakeRun = omega arith
section-one who (Section.Register x) = omega arith
section-one who (Section.Unregister q a) = cond-few (is_ready a) (is_it who (TickOrRun.Run q))

pub stages-one : (who : TickOrRun) (o : Op) → stages_of who o ≤ used_of who o
stages-one who (Op.User (UserOp.PollOwn x)) = omega arith
stages-one who (Op.Tick (TickOp.Search s)) = omega arith
stages-one who (Op.Tick (TickOp.Look s look)) = omega arith
stages-one who (Op.List (ListOp.LockWrite s)) = omega (arith, section-one who s)
stages-one who (Op.List (ListOp.Write s)) = omega (arith, section-one who s)
stages-one who (Op.Run (RunOp.Reschedule q a)) = omega (arith, cond-few (is_ready a) (is_it who (TickOrRun.Run q)))
stages-one who (Op.End r held) = omega (arith, end-parts r (holds_it who held))
stages-one who _ = omega arith

stray-few : (who : TickOrRun) (k : ℕ) (u : TickOrRun) (n : ℕ) → stray who k u n ≤ is_it who u
stray-few who k u n = one-stray (eq_who who u) (k == n) (is_it who u) (is-cond who u)

strays-section : (who : TickOrRun) (k : ℕ) (s : Section) → strays_section who k s ≤ early_section who s
strays-section who k Section.MakeRun = omega arith
strays-section who k (Section.Register x) = stray-few who k (TickOrRun.Run x.run) x.poll
strays-section who k (Section.Unregister q a) = omega arith

pub few-one : (who : TickOrRun) (k : ℕ) (o : Op) → strays_of who k o ≤ early_of who o
few-one who k (Op.User (UserOp.PollOwn x)) = stray-few who k (TickOrRun.Run x.run) x.poll
few-one who k (Op.Tick (TickOp.Search s)) = stray-few who k s.who s.poll
few-one who k (Op.Tick (TickOp.Look s look)) = stray-few who k s.who s.poll
few-one who k (Op.Tick (TickOp.CopyWaker s)) = stray-few who k s.who s.poll
few-one who k (Op.Tick (TickOp.FallAsleep s)) = stray-few who k s.who s.poll
few-one who k (Op.List (ListOp.LockWrite s)) = strays-section who k s
few-one who k (Op.List (ListOp.Write s)) = strays-section who k s
few-one who k (Op.List (ListOp.LockRead x)) = stray-few who k (TickOrRun.Run x.run) x.poll
few-one who k (Op.Steal o) = stray-few who k (TickOrRun.Run (poll_in o).run) (poll_in o).poll
few-one who k (Op.Run (RunOp.TakeTurn x)) = stray-few who k (TickOrRun.Run x.run) x.poll
few-one who k (Op.Run (RunOp.SearchCommon x look)) = stray-few who k (TickOrRun.Run x.run) x.poll
few-one who k (Op.Run (RunOp.LookOwn x at left)) = stray-few who k (TickOrRun.Run x.run) x.poll
few-one who k (Op.Run (RunOp.WakeOwn x)) = stray-few who k (TickOrRun.Run x.run) x.poll
few-one who k _ = omega arith

pub drops-few : (who u : TickOrRun) → drops_who who u ≤ is_it who u
drops-few who (TickOrRun.Tick u) = omega arith
drops-few who (TickOrRun.Run q) = omega arith

pub leaves-one : (who : TickOrRun) (o : Op) → drops_of who o ≤ waking_up_of who o
leaves-one who (Op.Tick (TickOp.Leave u)) = drops-few who u
leaves-one who _ = omega arith

-- so nothing is to do with one that isn't used, no waker is copied for and none of which is called
nothing-idle : (who : TickOrRun) (o : Op) → used_of who o ≡ 0 → waking_up_of who o ≡ 0 → odd_of who o ≡ 0 →
    ((k : ℕ) → calls_of who k o ≡ 0) → Nothing who (o ∷ [])
nothing-idle who o z y l c = let s = stages-one who o in
    record {
      used = omega (arith, z);
      early = omega (arith, z, s);
      pends = omega (arith, z, s);
      refused = omega (arith, z, s);
      found = omega (arith, z, s);
      ends = omega (arith, z, s);
      waking_up = omega (arith, y);
      drops = omega (arith, y, leaves-one who o);
      odd = omega (arith, l);
      strays = λ k. omega (arith, z, s, few-one who k o);
      calls = λ k. omega (arith, c k);
    }

-- of another

module _ (t u : TickOrRun) (x : t ≢ u) where
  pub nothing-search : (a : Waker) (k : ℕ) → Nothing t (Op.Tick (TickOp.Search (asleep a u k)) ∷ [])
  nothing-search a k = nothing-idle t (Op.Tick (TickOp.Search (asleep a u k))) (other t u x) refl refl (λ j. refl)

  odd-other : odd_look t u ≡ 0
  odd-other = by u (other t u x)
    where
      by : (u : TickOrRun) → is_it t u ≡ 0 → odd_look t u ≡ 0
      by (TickOrRun.Tick n) z = refl
      by (TickOrRun.Run n) z = z

  pub nothing-look : (a : Waker) (k : ℕ) (look : Look) → Nothing t (Op.Tick (TickOp.Look (asleep a u k) look) ∷ [])
  nothing-look a k look =
      nothing-idle t (Op.Tick (TickOp.Look (asleep a u k) look)) (other t u x) refl odd-other (λ j. refl)

  pub nothing-copy : (a : Waker) (k : ℕ) → Nothing t (Op.Tick (TickOp.CopyWaker (asleep a u k)) ∷ [])
  nothing-copy a k = nothing-idle t (Op.Tick (TickOp.CopyWaker (asleep a u k))) (other t u x) refl refl (λ j. refl)

  pub nothing-sleep : (a : Waker) (k : ℕ) → Nothing t (Op.Tick (TickOp.FallAsleep (asleep a u k)) ∷ [])
  nothing-sleep a k = nothing-idle t (Op.Tick (TickOp.FallAsleep (asleep a u k))) (other t u x) refl refl (λ j. refl)

  pub nothing-up : Nothing t (Op.Tick (TickOp.WakeUp u) ∷ [])
  nothing-up = nothing-idle t (Op.Tick (TickOp.WakeUp u)) refl (other t u x) refl (λ j. refl)

  pub nothing-leave : Nothing t (Op.Tick (TickOp.Leave u) ∷ [])
  nothing-leave = nothing-idle t (Op.Tick (TickOp.Leave u)) refl (other t u x) refl (λ j. refl)

  pub nothing-call : (a : Waker) (k : ℕ) → Nothing t (Op.Sleeper (SleeperOp.CallSleeper (asleep a u k)) ∷ [])
  nothing-call a k =
      nothing-idle t (Op.Sleeper (SleeperOp.CallSleeper (asleep a u k))) refl refl refl
      (λ j. cond-other t u (same j k) x)

-- of another run

module _ (t : TickOrRun) (q : ℕ) (a : Reply) (x : t ≢ TickOrRun.Run q) where
  none-of : (b : Bool) → cond b (is_it t (TickOrRun.Run q)) 0 ≡ 0
  none-of b = omega (arith, cond-few b (is_it t (TickOrRun.Run q)), other t (TickOrRun.Run q) x)

  pub nothing-section : Nothing t (Op.List (ListOp.Write (Section.Unregister q a)) ∷ [])
  nothing-section = nothing-idle t (Op.List (ListOp.Write (Section.Unregister q a))) (other t (TickOrRun.Run q) x) refl
      (none-of (is_pending a || is_refusal a)) (λ j. refl)

  pub nothing-left : Nothing t (Op.Run (RunOp.Reschedule q a) ∷ [])
  nothing-left = nothing-idle t (Op.Run (RunOp.Reschedule q a)) (other t (TickOrRun.Run q) x) refl
      (none-of (is_pending a || is_refusal a)) (λ j. refl)

  pub nothing-locked : Nothing t (Op.List (ListOp.LockWrite (Section.Unregister q a)) ∷ [])
  nothing-locked = nothing-idle t (Op.List (ListOp.LockWrite (Section.Unregister q a))) (other t (TickOrRun.Run q) x)
      refl
      (none-of (is_pending a || is_refusal a)) (λ j. refl)

-- the beginning of another run's poll
pub nothing-polled : (t : TickOrRun) (x : RunPoll) → t ≢ TickOrRun.Run x.run →
    Nothing t (Op.List (ListOp.LockWrite (Section.Register x)) ∷ []) × Nothing t (Op.User (UserOp.PollOwn x) ∷ [])
nothing-polled t x n = (
  nothing-idle t (Op.List (ListOp.LockWrite (Section.Register x))) (other t (TickOrRun.Run x.run) n) refl refl
      (λ j. refl),
  nothing-idle t (Op.User (UserOp.PollOwn x)) (other t (TickOrRun.Run x.run) n) refl refl (λ j. refl),
)

pub nothing-woken : (t : TickOrRun) (x : RunPoll) → t ≢ TickOrRun.Run x.run → Nothing t (Op.Run (RunOp.WakeOwn x) ∷ [])
nothing-woken t x n =
    nothing-idle t (Op.Run (RunOp.WakeOwn x)) (other t (TickOrRun.Run x.run) n) refl refl (λ j. refl)

-- the end of a call that uses another or none
pub nothing-end : (t : TickOrRun) (r : Reply) (held : Hold) → holds_it t held ≡ 0 → Nothing t (Op.End r held ∷ [])
nothing-end t r held z = nothing-idle t (Op.End r held) z refl refl (λ j. refl)

-- what has nothing to do with any

copy-none : (t : TickOrRun) (held : Hold) → holds_some held ≡ 0 → holds_it t held ≡ 0
copy-none t (Hold.Tick u) z = absurd (omega (arith, z))
copy-none t (Hold.Run u) z = absurd (omega (arith, z))
copy-none t _ z = refl

used-free : (t : TickOrRun) (o : Op) → sits_of o ≡ 0 → used_of t o ≡ 0
used-free t (Op.User (UserOp.PollOwn x)) z = absurd (omega (arith, z))
used-free t (Op.Tick (TickOp.Search s)) z = absurd (omega (arith, z))
used-free t (Op.Tick (TickOp.Look s look)) z = absurd (omega (arith, z))
used-free t (Op.Tick (TickOp.CopyWaker s)) z = absurd (omega (arith, z))
used-free t (Op.Tick (TickOp.FallAsleep s)) z = absurd (omega (arith, z))
used-free t (Op.List (ListOp.LockWrite Section.MakeRun)) z = refl
used-free t (Op.List (ListOp.LockWrite (Section.Register x))) z = absurd (omega (arith, z))
used-free t (Op.List (ListOp.LockWrite (Section.Unregister q a))) z = absurd (omega (arith, z))
used-free t (Op.List (ListOp.Write Section.MakeRun)) z = refl
used-free t (Op.List (ListOp.Write (Section.Register x))) z = absurd (omega (arith, z))
used-free t (Op.List (ListOp.Write (Section.Unregister q a))) z = absurd (omega (arith, z))
used-free t (Op.List ListOp.UnlockWrite) z = refl
used-free t (Op.List (ListOp.LockRead x)) z = absurd (omega (arith, z))
used-free t (Op.List ListOp.UnlockRead) z = refl
used-free t (Op.Steal o) z = absurd (omega (arith, z))
used-free t (Op.Run RunOp.MakeRoom) z = refl
used-free t (Op.Run RunOp.ReturnRoom) z = refl
used-free t (Op.Run (RunOp.TakeTurn x)) z = absurd (omega (arith, z))
used-free t (Op.Run (RunOp.SearchCommon x look)) z = absurd (omega (arith, z))
used-free t (Op.Run (RunOp.LookOwn x at left)) z = absurd (omega (arith, z))
used-free t (Op.Run (RunOp.WakeOwn x)) z = absurd (omega (arith, z))
used-free t (Op.Run (RunOp.Reschedule q a)) z = absurd (omega (arith, z))
used-free t (Op.End r held) z = copy-none t held z
used-free t _ z = refl

waking_up-free : (t : TickOrRun) (o : Op) → sits_of o ≡ 0 → waking_up_of t o ≡ 0
waking_up-free t (Op.Tick (TickOp.WakeUp u)) z = absurd (omega (arith, z))
waking_up-free t (Op.Tick (TickOp.Leave u)) z = absurd (omega (arith, z))
waking_up-free t _ z = refl

odd-free : (t : TickOrRun) (o : Op) → sits_of o ≡ 0 → odd_of t o ≡ 0
odd-free t (Op.Tick (TickOp.Look s look)) z = absurd (omega (arith, z))
odd-free t (Op.Waker (WakerOp.CopyWaker f held)) z = copy-none t held z
odd-free t (Op.List (ListOp.LockWrite (Section.Unregister q a))) z = absurd (omega (arith, z))
odd-free t (Op.List (ListOp.Write (Section.Unregister q a))) z = absurd (omega (arith, z))
odd-free t (Op.Run (RunOp.Reschedule q a)) z = absurd (omega (arith, z))
odd-free t _ z = refl

calls-free : (t : TickOrRun) (k : ℕ) (o : Op) → sits_of o ≡ 0 → calls_of t k o ≡ 0
calls-free t k (Op.Sleeper (SleeperOp.CallSleeper s)) z = absurd (omega (arith, z))
calls-free t k _ z = refl

nothing-one : (t : TickOrRun) (o : Op) → sits_of o ≡ 0 → Nothing t (o ∷ [])
nothing-one t o z =
    nothing-idle t o (used-free t o z) (waking_up-free t o z) (odd-free t o z) (λ k. calls-free t k o z)

pub nothing-both : (t : TickOrRun) (xs ys : List Op) → Nothing t xs → Nothing t ys → Nothing t (xs ++ ys)
nothing-both t xs ys a b = record {
  used = omega (arith, weigh-append (used_of t) xs ys, a.used, b.used);
  early = omega (arith, weigh-append (early_of t) xs ys, a.early, b.early);
  pends = omega (arith, weigh-append (pends_of t) xs ys, a.pends, b.pends);
  refused = omega (arith, weigh-append (refused_of t) xs ys, a.refused, b.refused);
  found = omega (arith, weigh-append (found_of t) xs ys, a.found, b.found);
  ends = omega (arith, weigh-append (ends_of t) xs ys, a.ends, b.ends);
  waking_up = omega (arith, weigh-append (waking_up_of t) xs ys, a.waking_up, b.waking_up);
  drops = omega (arith, weigh-append (drops_of t) xs ys, a.drops, b.drops);
  odd = omega (arith, weigh-append (odd_of t) xs ys, a.odd, b.odd);
  strays = λ k. omega (arith, weigh-append (strays_of t k) xs ys, a.strays k, b.strays k);
  calls = λ k. omega (arith, weigh-append (calls_of t k) xs ys, a.calls k, b.calls k);
}

pub nothing-of : (t : TickOrRun) (os : List Op) → weigh sits_of os ≡ 0 → Nothing t os
nothing-of t [] z =
    record {
      used = refl;
      early = refl;
      pends = refl;
      refused = refl;
      found = refl;
      ends = refl;
      waking_up = refl;
      drops = refl;
      odd = refl;
      strays = λ j. refl;
      calls = λ j. refl;
    }
nothing-of t (o ∷ os) z =
    nothing-both t (o ∷ []) os (nothing-one t o (omega (arith, z))) (nothing-of t os (omega (arith, z)))

-- what stands in between has nothing to do with it

pub with-middle : (t : TickOrRun) (o : Op) (xs ys : List Op) (r : Doing) → Nothing t xs →
    with_doing t (o ∷ xs ++ ys) r ≡ with_doing t (o ∷ ys) r
with-middle t o xs ys r n = λ i. record {
  used = middle (used_of t) r.used n.used i;
  early = middle (early_of t) r.early n.early i;
  pends = middle (pends_of t) r.pends n.pends i;
  refused = middle (refused_of t) r.refused n.refused i;
  found = middle (found_of t) r.found n.found i;
  ends = middle (ends_of t) r.ends n.ends i;
  waking_up = middle (waking_up_of t) r.waking_up n.waking_up i;
  drops = middle (drops_of t) r.drops n.drops i;
  odd = middle (odd_of t) r.odd n.odd i;
  strays = λ k. middle (strays_of t k) (r.strays k) (n.strays k) i;
  calls = λ k. middle (calls_of t k) (r.calls k) (n.calls k) i;
}
  where
    middle : (v : Op → ℕ) (m : ℕ) → weigh v xs ≡ 0 → weigh v (o ∷ xs ++ ys) + m ≡ weigh v (o ∷ ys) + m
    middle v m z = omega (arith, weigh-append v xs ys, z)

-- what is in front has nothing to do with it

pub with-front : (t : TickOrRun) (xs ys : List Op) (r : Doing) → Nothing t xs →
    with_doing t (xs ++ ys) r ≡ with_doing t ys r
with-front t xs ys r n = λ i. record {
  used = front (used_of t) r.used n.used i;
  early = front (early_of t) r.early n.early i;
  pends = front (pends_of t) r.pends n.pends i;
  refused = front (refused_of t) r.refused n.refused i;
  found = front (found_of t) r.found n.found i;
  ends = front (ends_of t) r.ends n.ends i;
  waking_up = front (waking_up_of t) r.waking_up n.waking_up i;
  drops = front (drops_of t) r.drops n.drops i;
  odd = front (odd_of t) r.odd n.odd i;
  strays = λ k. front (strays_of t k) (r.strays k) (n.strays k) i;
  calls = λ k. front (calls_of t k) (r.calls k) (n.calls k) i;
}
  where
    front : (v : Op → ℕ) (m : ℕ) → weigh v xs ≡ 0 → weigh v (xs ++ ys) + m ≡ weigh v ys + m
    front v m z = omega (arith, weigh-append v xs ys, z)
