-- How many futures a poll of a run polls that is made alone.
use Rattle.std.specs.Prelude.{ℕ, ◌+◌, ◌≤◌, Bool, true, false, List, [], ◌∷◌, cond}
use Rattle.executor_model.specs.declared.call.By.{By}
use Rattle.executor_model.specs.declared.event.Event.{Event}
use Rattle.executor_model.specs.declared.event.Event.TheVariants.{PollBegun}
use Rattle.executor_model.specs.declared.step.Step.{Step}
use Rattle.executor_model.specs.Emptiness.{IsAtRest}
use Rattle.executor_model.specs.Steps.{Machine}
use Rattle.executor_model.specs.Trace.{Trace}
use Rattle.executor_laws.specs.Reach.{since}
use Rattle.executor_laws.specs.RunReach.{IsLonePoll}

-- the poll of a future begins
abbrev pub begins_poll : Event → Bool
begins_poll (PollBegun p f) = true
begins_poll _ = false

-- how many polls begin
abbrev pub polls_in : Trace → ℕ
polls_in [] = 0
polls_in (e ∷ es) = cond (begins_poll e) 1 0 + polls_in es

-- a lone poll of a run polls 200 futures at most, each time counted
abbrev pub PollsFew : Machine → Type 0
PollsFew s = IsAtRest s → (p r : ℕ) (b : By) (steps : List Step) (new : Machine) → IsLonePoll p r b steps s new →
    polls_in (since s new) ≤ 200
