use Rattle.executor_model.proofs.Outputs.OutputKept.{outputs-kept}
use Rattle.executor_model.proofs.laws.outputs_are_kept.Goals as goal

pub returns : goal.returns
returns c = outputs-kept
