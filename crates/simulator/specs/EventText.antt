-- What is printed of an event: polls, their answers and drops have a line each, and calls of outside wakers,
-- and the rest none.
use Rattle.std.specs.Prelude.{ℕ, ◌+◌, ◌-◌, ◌%◌, ◌^◌, List, [], ◌++◌, codes, slice_get, unwrap_or}
use Rattle.executor_model.specs.declared.event.Answer.{Answer}
use Rattle.executor_model.specs.declared.event.Answer.TheVariants.{Ready, Pending}
use Rattle.executor_model.specs.declared.event.Event.{Event}
use Rattle.executor_model.specs.declared.op.Waker.TheVariants.{Outside}
use Rattle.executor_model.specs.declared.event.Event.TheVariants.{PollBegun, Answered, Dropped}
use Rattle.executor_model.specs.declared.event.Event.TheVariants.{OutputDropped, WakerCalled}

-- futures are numbered in the order of their names, and so are ticks, and runs
abbrev pub name_of : List (List ℕ) → ℕ → List ℕ
name_of names number = unwrap_or (slice_get names number) []

-- outside wakers are numbered as the futures by whose names they go, for ticks downwards from the greatest number of
-- 64 bits, and for runs upwards from half of them
abbrev pub outside_of_tick : ℕ → ℕ
outside_of_tick t = 2 ^ 64 - 1 - t

abbrev pub outside_of_run : ℕ → ℕ
outside_of_run r = (r + 2 ^ 63) % 2 ^ 64

-- the name of an outside waker, of which all but one of the three are nothing
abbrev pub outside_name : List (List ℕ) → List (List ℕ) → List (List ℕ) → ℕ → List ℕ
outside_name names ticks runs x = name_of names x ++ name_of ticks (outside_of_tick x) ++ name_of runs (outside_of_run x)

-- what happened, and the name of whom
abbrev pub line_on : List ℕ → List ℕ → List ℕ
line_on happened name = happened ++ codes " " ++ name ++ codes "\n"

abbrev pub answer_text : Answer → List ℕ
answer_text Ready = codes "ready"
answer_text Pending = codes "pending"

abbrev pub event_text : List (List ℕ) → List (List ℕ) → List (List ℕ) → Event → List ℕ
event_text names ticks runs (PollBegun party future) = line_on (codes "poll") (name_of names future)
event_text names ticks runs (Answered party future answer) = line_on (answer_text answer) (name_of names future)
event_text names ticks runs (Dropped party future) = line_on (codes "drop") (name_of names future)
event_text names ticks runs (OutputDropped party future) = line_on (codes "lose") (name_of names future)
event_text names ticks runs (WakerCalled party polled poll (Outside x)) = line_on (codes "call") (outside_name names ticks runs x)
event_text names ticks runs _ = []
