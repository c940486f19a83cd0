use Rattle.executor_model.proofs.Outputs.SettledExecutions.{output-settled}
use Rattle.executor_model.proofs.laws.outputs_are_settled.Goals as goal

pub returns : goal.returns
returns c = output-settled
