-- What each party did.
use Rattle.std.specs.Prelude.{ℕ, ◌==◌, Bool, filter}
use Rattle.executor_model.specs.declared.event.Event.{Event}
use Rattle.executor_model.specs.declared.event.Event.TheVariants.{CallBegun, CallEnded, Accepted, PollBegun, Answered}
use Rattle.executor_model.specs.declared.event.Event.TheVariants.{Woken, Cancelled, Detached, LastWaker, Leaked}
use Rattle.executor_model.specs.declared.event.Event.TheVariants.{Dropped, OutputDropped, OutputGiven, HandlePolled}
use Rattle.executor_model.specs.declared.event.Event.TheVariants.{WakerCalled, TickPolled}
use Rattle.executor_model.specs.declared.event.Event.TheVariants.{TickDropped, RunPolled, RunDropped, Kept, Looked}
use Rattle.executor_model.specs.declared.event.Event.TheVariants.{DropBegun, DropEnded}
use Rattle.executor_model.specs.Trace.{Trace}

-- who did it
abbrev pub doer : Event → ℕ
doer (CallBegun p c) = p
doer (CallEnded p r) = p
doer (Accepted p f) = p
doer (PollBegun p f) = p
doer (Answered p f a) = p
doer (Woken p f) = p
doer (Cancelled p f) = p
doer (Detached p f) = p
doer (LastWaker p f) = p
doer (Leaked p f) = p
doer (Dropped p f) = p
doer (OutputDropped p f) = p
doer (OutputGiven p f) = p
doer (HandlePolled p f) = p
doer (WakerCalled p o k w) = p
doer (TickPolled p t) = p
doer (TickDropped p t) = p
doer (RunPolled p r) = p
doer (RunDropped p r) = p
doer (Kept p f r) = p
doer (Looked p m) = p
doer (DropBegun p) = p
doer (DropEnded p) = p

abbrev pub is_by : ℕ → Event → Bool
is_by p e = doer e == p

-- what party p did, in order
abbrev pub deeds : ℕ → Trace → Trace
deeds p trace = filter (is_by p) trace
