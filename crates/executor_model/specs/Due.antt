-- A future is due where somebody asked for it since its last poll began: it was accepted, woken or cancelled, or nobody
-- was left who could wake it, or a leak of the executor called the waker that the table had.
use Rattle.std.specs.Prelude.{◌≡◌, ◌≢◌, ℕ, ◌≤◌, Bool, true, false, ◌||◌, take, length}
use Rattle.std.specs.List.{after_last}
use Rattle.executor_model.specs.declared.event.Event.{Event}
use Rattle.executor_model.specs.Trace.{Trace, has, is_accepted, is_poll, is_answer, is_ready}
use Rattle.executor_model.specs.Trace.{is_woken, is_cancelled, is_last_waker, is_leaked, is_dropped}

-- somebody asks for future f
abbrev pub is_request : ℕ → Event → Bool
is_request f e = is_accepted f e || is_woken f e || is_cancelled f e || is_last_waker f e || is_leaked f e

-- what happened since the last poll of future f began, or all where it has none
abbrev pub since_poll : ℕ → Trace → Trace
since_poll f trace = after_last (is_poll f) trace

-- a poll of future f has begun, and isn't answered
pub record HasOpenPoll (f : ℕ) (trace : Trace) : Type 0 where
  pub begun : has (is_poll f) trace ≡ true
  pub unanswered : has (is_answer f) (since_poll f trace) ≡ false

pub record IsDue (f : ℕ) (trace : Trace) : Type 0 where
  pub accepted : has (is_accepted f) trace ≡ true
  pub undropped : has (is_dropped f) trace ≡ false
  pub unready : has (is_ready f) trace ≡ false
  pub resting : ¬ HasOpenPoll f trace
  pub asked_for : has (is_request f) (since_poll f trace) ≡ true

-- future f came due before future g: at some moment f was due and g wasn't, and f has been due ever since
pub record CameDueBefore (f g : ℕ) (trace : Trace) : Type 0 where
  pub moment : ℕ
  pub within : moment ≤ length trace
  pub later : ¬ IsDue g (take moment trace)
  pub ever_since : (n : ℕ) → moment ≤ n → n ≤ length trace → IsDue f (take n trace)

-- of the futures that are due, f is the first that came due
pub record IsFirstDue (f : ℕ) (trace : Trace) : Type 0 where
  pub due : IsDue f trace
  pub first : (g : ℕ) → IsDue g trace → g ≢ f → CameDueBefore f g trace
