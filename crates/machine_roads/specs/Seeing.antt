-- What the plain scheduler sees, as the machine's trace tells of it.
use Rattle.std.specs.Prelude.{List, [], ◌∷◌, ◌++◌}
use Rattle.executor_model.specs.declared.call.Reply.{Reply}
use Rattle.executor_model.specs.declared.call.Reply.TheVariants as reply
use Rattle.executor_model.specs.declared.event.Event.{Event}
use Rattle.executor_model.specs.declared.event.Event.TheVariants as event
use Rattle.executor_model.specs.declared.op.Waker.{Waker}
use Rattle.executor_model.specs.declared.op.Waker.TheVariants.{Outside}
use Rattle.executor_model.specs.Trace.{Trace}
use Rattle.plain_scheduler.specs.State.{Answer, Made, Full, NoMemory, Yes, No, Pending, Ready, Gives, Cancelled, Finished, Done}
use Rattle.plain_scheduler.specs.State.{Event as Sight, Polls, Drops, Loses, Calls, Answers}
use Rattle.machine_roads.specs.View.{Output}

abbrev pub answer_of : Reply → Answer Output
answer_of reply.Made = Made
answer_of reply.Full = Full
answer_of reply.Yes = Yes
answer_of reply.No = No
answer_of reply.Done = Done
answer_of reply.NoMemory = NoMemory
answer_of reply.Pending = Pending
answer_of reply.Ready = Ready
answer_of reply.Cancelled = Cancelled
answer_of reply.Finished = Finished

-- of wakers the calls of those from outside
abbrev pub heard : Event → List (Sight Output Waker)
heard (event.CallEnded p r) = Answers (answer_of r) ∷ []
heard (event.PollBegun p f) = Polls f ∷ []
heard (event.Dropped p f) = Drops f ∷ []
heard (event.OutputDropped p f) = Loses tt ∷ []
heard (event.WakerCalled p o k (Outside x)) = Calls (Outside x) ∷ []
heard _ = []

abbrev pub heard_in : Trace → List (Sight Output Waker)
heard_in [] = []
heard_in (e ∷ es) = heard e ++ heard_in es

-- the machine answers alike that an output is given, and that a tick or run is ready
abbrev pub shown : Sight Output Waker → Sight Output Waker
shown (Answers (Gives v)) = Answers Ready
shown sight = sight
