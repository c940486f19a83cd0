use Rattle.executor_model.specs.DroppedOnce.{DropComesOnce}
use Rattle.executor_model.proofs.Table.Entering.{places, drop-comes-once}
use Rattle.executor_model.proofs.trace_laws.drops_come_once.Goals as goal

pub returns : goal.returns
returns c = places (λ s f. DropComesOnce f s.world.trace) (λ s f fine h. drop-comes-once s f fine h)
