use Rattle.executor_model.proofs.Table.LastTold.{closings-say-why}
use Rattle.executor_model.proofs.call_laws.closings_say_why.Goals as goal

pub returns : goal.returns
returns c = closings-say-why
