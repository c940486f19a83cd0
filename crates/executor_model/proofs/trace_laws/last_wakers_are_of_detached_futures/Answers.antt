use Rattle.executor_model.specs.EarlyDrop.{LastWakerIsLast}
use Rattle.executor_model.proofs.Table.Leaking.{places-of}
use Rattle.executor_model.proofs.Table.Entering.{last-is-last}
use Rattle.executor_model.proofs.trace_laws.last_wakers_are_of_detached_futures.Goals as goal

pub returns : goal.returns
returns c = places-of (λ k s f. LastWakerIsLast k f s.world.trace) (λ k s f fine h e. last-is-last s f fine h k e)
