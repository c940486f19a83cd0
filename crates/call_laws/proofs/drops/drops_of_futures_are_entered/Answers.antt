use Rattle.call_laws.proofs.Entering.{every-entered}
use Rattle.call_laws.proofs.drops.drops_of_futures_are_entered.Goals as goal

pub returns : goal.returns
returns c = every-entered
