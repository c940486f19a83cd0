use Rattle.solo_laws.proofs.Following.InClose.{calls_in_close}
use Rattle.solo_laws.proofs.roads.calls_in_a_close_are_alike.Goals as goal

pub returns : goal.returns
returns g c its all gone left s p r = calls_in_close its all gone left s p r
