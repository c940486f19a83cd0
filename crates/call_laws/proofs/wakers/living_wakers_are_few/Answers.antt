use Rattle.call_laws.proofs.Living.{few-live}
use Rattle.call_laws.proofs.wakers.living_wakers_are_few.Goals as goal

pub returns : goal.returns
returns c = few-live
