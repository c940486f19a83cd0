-- Each kind of call on a ring has a type of its own for its turns. This is what they are among the turns of all.
use Rattle.queue_steps.specs.Reply.{Empty, Closed}
use Rattle.queue_steps.specs.BoundedTurns.{Turn, Tail, Head, Stamp, HeadFor, TailFor, Append, Take, Displace, Spend, End}
use Rattle.queue_steps.specs.declared.steps.bounded.PushTurn.{PushTurn}
use Rattle.queue_steps.specs.declared.steps.bounded.PushTurn.TheVariants as push
use Rattle.queue_steps.specs.declared.steps.bounded.ForcePushTurn.{ForcePushTurn}
use Rattle.queue_steps.specs.declared.steps.bounded.ForcePushTurn.TheVariants as force_push
use Rattle.queue_steps.specs.declared.steps.bounded.PopTurn.{PopTurn}
use Rattle.queue_steps.specs.declared.steps.bounded.PopTurn.TheVariants as pop

abbrev pub of_push : PushTurn → Turn
of_push push.Tail = Tail
of_push (push.Stamp tail) = Stamp tail
of_push (push.HeadFor tail) = HeadFor tail
of_push (push.Append tail) = Append tail
of_push (push.Spend tail) = Spend tail
of_push push.Closed = End Closed

abbrev pub of_force_push : ForcePushTurn → Turn
of_force_push (force_push.Push turn) = of_push turn
of_force_push (force_push.Displace tail) = Displace tail

abbrev pub of_pop : PopTurn → Turn
of_pop pop.Head = Head
of_pop (pop.Stamp head) = Stamp head
of_pop (pop.TailFor head) = TailFor head
of_pop (pop.Take head) = Take head
of_pop pop.Empty = End Empty
of_pop pop.Closed = End Closed
