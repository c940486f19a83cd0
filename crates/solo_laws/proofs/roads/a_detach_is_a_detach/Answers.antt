use Rattle.solo_laws.proofs.Following.Both.{detaches_alike}
use Rattle.solo_laws.proofs.roads.a_detach_is_a_detach.Goals as goal

pub returns : goal.returns
returns g c its s p both = detaches_alike its s p both
