-- A due future that a run keeps in a queue of its own has that run as its keeper; one without a keeper is common.
use Rattle.std.specs.Prelude.{◌≡◌, ℕ, ◌+◌, ◌<◌, ◌==◌, Bool, false, Some, slice_get}
use Rattle.executor_model.specs.declared.call.Reply.TheVariants.{Ready}
use Rattle.executor_model.specs.declared.event.Event.{Event}
use Rattle.executor_model.specs.declared.event.Event.TheVariants.{Kept, RunDropped, RunPolled}
use Rattle.executor_model.specs.AwaiterKept.{EndsWith, since}
use Rattle.executor_model.specs.Due.{IsDue}
use Rattle.executor_model.specs.Trace.{Trace, has, is_poll}

-- future f comes into the own queue of a run
abbrev pub is_kept : ℕ → Event → Bool
is_kept f (Kept p g r) = f == g
is_kept f _ = false

abbrev pub is_run_drop : ℕ → Event → Bool
is_run_drop r (RunDropped p q) = r == q
is_run_drop r _ = false

-- behind this place, a poll of run r was answered that its own future is ready
pub record AnswersReady (r place : ℕ) (trace : Trace) : Type 0 where
  pub party : ℕ
  pub poll : ℕ
  pub polled : slice_get trace poll ≡ Some (RunPolled party r)
  pub ready : EndsWith party Ready (since poll trace)
  pub later : place < poll + 1 + ready.place

-- run r is the keeper of future f: the last time that f came into an own queue since its last poll began, that was r's;
-- and r was neither dropped nor ready since
pub record IsKeeper (r f : ℕ) (trace : Trace) : Type 0 where
  pub party : ℕ
  pub place : ℕ
  pub kept : slice_get trace place ≡ Some (Kept party f r)
  pub last : has (is_kept f) (since place trace) ≡ false
  pub unpolled : has (is_poll f) (since place trace) ≡ false
  pub undropped : has (is_run_drop r) (since place trace) ≡ false
  pub unready : ¬ AnswersReady r place trace

pub record IsCommon (f : ℕ) (trace : Trace) : Type 0 where
  pub due : IsDue f trace
  pub unkept : (r : ℕ) → ¬ IsKeeper r f trace
