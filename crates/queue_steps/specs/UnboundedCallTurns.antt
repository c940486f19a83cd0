-- Each kind of call on a chain has a type of its own for its turns. This is what they are among the turns of all.
use Rattle.queue_steps.specs.Reply.{Empty, Closed}
use Rattle.queue_steps.specs.UnboundedTurns.{Turn, Append, Link, Take, Unlink, Spend, End}
use Rattle.queue_steps.specs.declared.steps.unbounded.PushTurn.{PushTurn}
use Rattle.queue_steps.specs.declared.steps.unbounded.PushTurn.TheVariants as push
use Rattle.queue_steps.specs.declared.steps.unbounded.PopTurn.{PopTurn}
use Rattle.queue_steps.specs.declared.steps.unbounded.PopTurn.TheVariants as pop

abbrev pub of_push : PushTurn → Turn
of_push push.Append = Append
of_push push.Link = Link
of_push push.Spend = Spend
of_push push.Closed = End Closed

abbrev pub of_pop : PopTurn → Turn
of_pop pop.Take = Take
of_pop pop.Unlink = Unlink
of_pop pop.Empty = End Empty
of_pop pop.Closed = End Closed
