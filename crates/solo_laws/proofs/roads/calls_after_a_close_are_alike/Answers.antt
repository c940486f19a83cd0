use Rattle.solo_laws.proofs.Following.AfterPolls.{calls_after_close}
use Rattle.solo_laws.proofs.roads.calls_after_a_close_are_alike.Goals as goal

pub returns : goal.returns
returns g c its s p r = calls_after_close its s p r
