use Rattle.call_laws.proofs.EnteringOutputs.{outputs-entered}
use Rattle.call_laws.proofs.drops.drops_of_outputs_are_entered.Goals as goal

pub returns : goal.returns
returns c = outputs-entered
