-- Each kind of call on a single slot has a type of its own for its turns. This is what they are among the turns of all.
use Rattle.queue_steps.specs.Reply.{Full, Empty, Closed}
use Rattle.queue_steps.specs.SingleTurns.{Turn, Look, Exchange, End}
use Rattle.queue_steps.specs.declared.steps.single.PushTurn.{PushTurn}
use Rattle.queue_steps.specs.declared.steps.single.PushTurn.TheVariants as push
use Rattle.queue_steps.specs.declared.steps.single.ForcePushTurn.{ForcePushTurn}
use Rattle.queue_steps.specs.declared.steps.single.ForcePushTurn.TheVariants as force_push
use Rattle.queue_steps.specs.declared.steps.single.PopTurn.{PopTurn}
use Rattle.queue_steps.specs.declared.steps.single.PopTurn.TheVariants as pop

abbrev pub of_push : PushTurn → Turn
of_push push.Look = Look
of_push (push.Exchange old new) = Exchange old new
of_push push.Full = End Full
of_push push.Closed = End Closed

abbrev pub of_force_push : ForcePushTurn → Turn
of_force_push force_push.Look = Look
of_force_push (force_push.Exchange old new) = Exchange old new
of_force_push force_push.Closed = End Closed

abbrev pub of_pop : PopTurn → Turn
of_pop pop.Look = Look
of_pop (pop.Exchange old new) = Exchange old new
of_pop pop.Empty = End Empty
of_pop pop.Closed = End Closed
