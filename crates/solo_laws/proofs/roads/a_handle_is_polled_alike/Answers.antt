use Rattle.solo_laws.proofs.Following.Both.{handles_alike}
use Rattle.solo_laws.proofs.roads.a_handle_is_polled_alike.Goals as goal

pub returns : goal.returns
returns g c its s p both = handles_alike its s p both
