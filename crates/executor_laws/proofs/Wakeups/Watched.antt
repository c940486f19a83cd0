-- For some_standing_is_called.
-- What a trace tells of a tick or run and of its last poll, read from left to right.
use Rattle.std.proofs.Common.{◌≡◌, ℕ, zero, suc, ◌+◌, ◌==◌, [], ◌∷◌, ◌++◌, length, Bool, true, false, ◌&&◌, cond, refl, ap, ◌∙◌}
use Rattle.std.proofs.Common.{arith}
use Rattle.executor_model.specs.{Trace.Trace, Weights.same}
use Rattle.executor_laws.proofs.{Types.Reply, Types.Event, Types.Polled, Types.TickOrRun, Wakeups.Sitting.eq_who}

pub record Watched : Type 0 where
  -- where that poll stands, and whose it is
  pub poll : ℕ
  pub party : ℕ
  -- it isn't answered, and so many calls of its party are in progress inside of it
  pub asking : Bool
  pub inner : ℕ
  -- it was answered that no future was found, or that memory was refused
  pub pending : Bool
  pub refused : Bool
  -- its waker was called
  pub called : Bool
  -- the drop of the tick or run has begun
  pub left : Bool

abbrev pub unwatched : Watched
unwatched = record {
  poll = 0;
  party = 0;
  asking = false;
  inner = 0;
  pending = false;
  refused = false;
  called = false;
  left = false;
}

abbrev pub is_pending : Reply → Bool
is_pending Reply.Pending = true
is_pending _ = false

abbrev pub is_refusal : Reply → Bool
is_refusal Reply.NoMemory = true
is_refusal _ = false

abbrev pub poll_begun : ℕ → ℕ → Watched → Watched
poll_begun n p s = record s
    { poll = n; party = p; asking = true; inner = 0; pending = false; refused = false; called = false }

-- its drop has begun
abbrev pub parted : Watched → Watched
parted s = record s { pending = false; refused = false; left = true }

-- a call of the party has ended
abbrev pub ended_in : ℕ → Reply → Watched → Watched
ended_in zero r s = record s { asking = false; pending = is_pending r; refused = is_refusal r }
ended_in (suc n) r s = record s { inner = n }

-- the waker of poll k was called
abbrev pub called_at : ℕ → Watched → Watched
called_at k s = record s { called = cond (s.poll == k) true s.called }

-- the event at place n
abbrev pub watches : TickOrRun → ℕ → Event → Watched → Watched
watches who n (Event.TickPolled p u) s = cond (eq_who who (TickOrRun.Tick u)) (poll_begun n p s) s
watches who n (Event.RunPolled p q) s = cond (eq_who who (TickOrRun.Run q)) (poll_begun n p s) s
watches who n (Event.TickDropped p u) s = cond (eq_who who (TickOrRun.Tick u)) (parted s) s
watches who n (Event.RunDropped p q) s = cond (eq_who who (TickOrRun.Run q)) (parted s) s
watches who n (Event.CallBegun p c) s = record s { inner = s.inner + cond s.asking (same s.party p) 0 }
watches who n (Event.CallEnded p r) s = cond (s.asking && (s.party == p)) (ended_in s.inner r s) s
watches who n (Event.WakerCalled p (Polled.Tick u) k a) s = cond (eq_who who (TickOrRun.Tick u)) (called_at k s) s
watches who n (Event.WakerCalled p (Polled.Run q) k a) s = cond (eq_who who (TickOrRun.Run q)) (called_at k s) s
watches who n _ s = s

abbrev pub watched_from : TickOrRun → ℕ → Watched → Trace → Watched
watched_from who n s [] = s
watched_from who n s (e ∷ es) = watched_from who (suc n) (watches who n e s) es

unfoldable pub watched : TickOrRun → Trace → Watched
watched who es = watched_from who 0 unwatched es

watched_from-push : (who : TickOrRun) (n : ℕ) (s : Watched) (es : Trace) (e : Event) →
    watched_from who n s (es ++ e ∷ []) ≡ watches who (n + length es) e (watched_from who n s es)
watched_from-push who n s [] e = ap (λ (m : ℕ). watches who m e s) (let z : n ≡ n + 0 = omega arith in z)
watched_from-push who n s (x ∷ es) e = watched_from-push who (suc n) (watches who n x s) es e
    ∙ ap (λ (m : ℕ). watches who m e (watched_from who (suc n) (watches who n x s) es))
    (let z : suc n + length es ≡ n + suc (length es) = omega arith in z)

pub watched-push : (who : TickOrRun) (es : Trace) (e : Event) →
    watched who (es ++ e ∷ []) ≡ watches who (length es) e (watched who es)
unfolding watched
watched-push who es e = watched_from-push who 0 unwatched es e
    ∙ ap (λ (m : ℕ). watches who m e (watched_from who 0 unwatched es))
    (let z : 0 + length es ≡ length es = omega arith in z)

pub watched-none : (who : TickOrRun) → watched who [] ≡ unwatched
unfolding watched
watched-none who = refl
