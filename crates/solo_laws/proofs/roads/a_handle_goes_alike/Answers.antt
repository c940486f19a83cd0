use Rattle.solo_laws.proofs.Following.Both.{handle_drops_alike}
use Rattle.solo_laws.proofs.roads.a_handle_goes_alike.Goals as goal

pub returns : goal.returns
returns g c its s p both = handle_drops_alike its s p both
