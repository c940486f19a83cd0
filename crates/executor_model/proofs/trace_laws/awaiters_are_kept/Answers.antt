use Rattle.executor_model.proofs.Awaiters.AwaitedRest.{awaiter-is-kept}
use Rattle.executor_model.proofs.trace_laws.awaiters_are_kept.Goals as goal

pub returns : goal.returns
returns c = awaiter-is-kept
