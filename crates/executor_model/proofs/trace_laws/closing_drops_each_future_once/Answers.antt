use Rattle.executor_model.specs.DroppedOnce.{IsDroppedByTheEnd}
use Rattle.executor_model.proofs.Table.Entering.{places, dropped-by-the-end}
use Rattle.executor_model.proofs.trace_laws.closing_drops_each_future_once.Goals as goal

pub returns : goal.returns
returns c = places (λ s f. IsDroppedByTheEnd f s.world.trace) (λ s f fine h. dropped-by-the-end s f fine h)
