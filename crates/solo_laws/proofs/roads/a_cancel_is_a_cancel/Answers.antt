use Rattle.solo_laws.proofs.Following.Both.{cancels_alike}
use Rattle.solo_laws.proofs.roads.a_cancel_is_a_cancel.Goals as goal

pub returns : goal.returns
returns g c its s p both = cancels_alike its s p both
