use Rattle.call_laws.proofs.UsingUp.{used-up-gone}
use Rattle.call_laws.proofs.wakers.used_up_wakers_are_gone.Goals as goal

pub returns : goal.returns
returns c = used-up-gone
