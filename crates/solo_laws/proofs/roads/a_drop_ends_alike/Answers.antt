use Rattle.solo_laws.proofs.Following.Drops.{given_drops_alike, closed_drops_alike}
use Rattle.solo_laws.proofs.roads.a_drop_ends_alike.Goals as goal

pub returns : goal.returns
returns g c its s p both = (given_drops_alike its s p both, closed_drops_alike its s p both)
