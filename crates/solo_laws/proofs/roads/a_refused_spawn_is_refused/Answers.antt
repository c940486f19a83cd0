use Rattle.solo_laws.proofs.Following.Refusing.{refuses_alike}
use Rattle.solo_laws.proofs.roads.a_refused_spawn_is_refused.Goals as goal

pub returns : goal.returns
returns g c its s p both = refuses_alike its s p both
