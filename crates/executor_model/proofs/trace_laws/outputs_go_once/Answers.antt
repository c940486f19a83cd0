use Rattle.executor_model.proofs.Outputs.OutputExecutions.{output-goes-once}
use Rattle.executor_model.proofs.trace_laws.outputs_go_once.Goals as goal

pub returns : goal.returns
returns c = output-goes-once
