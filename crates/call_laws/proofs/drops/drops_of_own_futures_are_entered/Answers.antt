use Rattle.call_laws.proofs.DroppingOwn.{own-entered}
use Rattle.call_laws.proofs.drops.drops_of_own_futures_are_entered.Goals as goal

pub returns : goal.returns
returns c = own-entered
