use Rattle.solo_laws.proofs.Following.Both.{wakes_alike}
use Rattle.solo_laws.proofs.roads.a_wake_is_a_wake.Goals as goal

pub returns : goal.returns
returns g c its s p both = wakes_alike its s p both
