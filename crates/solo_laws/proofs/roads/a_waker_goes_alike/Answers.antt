use Rattle.solo_laws.proofs.Following.Both.{releases_alike, uses_alike}
use Rattle.solo_laws.proofs.roads.a_waker_goes_alike.Goals as goal

pub returns : goal.returns
returns g c its s p both = (releases_alike its s p both, uses_alike its s p both)
