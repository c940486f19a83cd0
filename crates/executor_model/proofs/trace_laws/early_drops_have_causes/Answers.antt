use Rattle.executor_model.specs.EarlyDrop.{EarlyDropHasCause}
use Rattle.executor_model.proofs.Table.Leaking.{places-of}
use Rattle.executor_model.proofs.Table.Entering.{drop-caused}
use Rattle.executor_model.proofs.trace_laws.early_drops_have_causes.Goals as goal

pub returns : goal.returns
returns c = places-of (λ k s f. EarlyDropHasCause k f s.world.trace) (λ k s f fine h e. drop-caused s f fine h k e)
