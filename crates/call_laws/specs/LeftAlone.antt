-- Behind a cancel of a future, or where nobody is left who could wake it, no poll of it begins. A poll that is open then ends as
-- any other: it is answered, once.
use Rattle.std.specs.Prelude.{◌≡◌, ℕ, ◌≤◌, Bool, false, ◌||◌, count_by}
use Rattle.std.specs.List.{after_first, before_first}
use Rattle.executor_model.specs.declared.event.Event.{Event}
use Rattle.executor_model.specs.Trace.{Trace, has, is_answer, is_cancelled, is_last_waker, is_poll}

-- future f was cancelled, or nobody is left who could wake it
abbrev pub is_given_up : ℕ → Event → Bool
is_given_up f e = is_cancelled f e || is_last_waker f e

pub record IsLeftAlone (f : ℕ) (trace : Trace) : Type 0 where
  pub unpolled : has (is_poll f) (after_first (is_given_up f) trace) ≡ false
  -- each answer is one of a poll that began before
  pub answered : count_by (is_answer f) trace ≤ count_by (is_poll f) (before_first (is_given_up f) trace)
