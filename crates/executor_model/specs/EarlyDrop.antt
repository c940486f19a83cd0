-- A future that is dropped before it was ready is dropped for a cause: it was cancelled, or the drop of the executor has
-- begun, or, on an executor that is static or was leaked, it was detached and nobody was left who could wake it.
use Rattle.std.specs.Prelude.{◌≡◌, ◌⊎◌, ℕ, true, false}
use Rattle.std.specs.List.{before_first}
use Rattle.executor_model.specs.declared.kind.Kind.{Kind}
use Rattle.executor_model.specs.declared.kind.Kind.TheVariants.{Static}
use Rattle.executor_model.specs.Trace.{Trace, has, is_ready, is_cancelled, is_detached, is_last_waker, is_leak_begun}
use Rattle.executor_model.specs.Trace.{is_dropped, is_drop_begun}

-- what happened before the drop of future f
abbrev pub before_drop : ℕ → Trace → Trace
before_drop f trace = before_first (is_dropped f) trace

pub record IsDroppedEarly (f : ℕ) (trace : Trace) : Type 0 where
  pub dropped : has (is_dropped f) trace ≡ true
  pub early : has (is_ready f) (before_drop f trace) ≡ false

-- future f of an executor that is static, or was leaked, was detached, and nobody was left who could wake it
pub record IsForgotten (kind : Kind) (f : ℕ) (trace : Trace) : Type 0 where
  pub static : (kind ≡ Static) ⊎ (has is_leak_begun trace ≡ true)
  pub detached : has (is_detached f) trace ≡ true
  pub unwakeable : has (is_last_waker f) trace ≡ true

abbrev pub EarlyDropHasCause : Kind → ℕ → Trace → Type 0
EarlyDropHasCause kind f trace =
    IsDroppedEarly f trace →
    (has (is_cancelled f) (before_drop f trace) ≡ true)
    ⊎ ((has is_drop_begun (before_drop f trace) ≡ true) ⊎ IsForgotten kind f (before_drop f trace))

-- nobody is left who could wake a future only where it is detached and the executor is static, or the drop of the executor
-- has begun
abbrev pub LastWakerIsLast : Kind → ℕ → Trace → Type 0
LastWakerIsLast kind f trace =
    has (is_last_waker f) trace ≡ true → (has is_drop_begun trace ≡ true) ⊎ IsForgotten kind f trace
