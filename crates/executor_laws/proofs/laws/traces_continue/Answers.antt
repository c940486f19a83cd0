use Rattle.executor_model.proofs.Steps.TraceSteps.{continues}
use Rattle.executor_laws.proofs.laws.traces_continue.Goals as goal

pub returns : goal.returns
returns c = continues
