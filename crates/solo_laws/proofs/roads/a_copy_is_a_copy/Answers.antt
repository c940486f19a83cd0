use Rattle.solo_laws.proofs.Following.Both.{copies_alike}
use Rattle.solo_laws.proofs.roads.a_copy_is_a_copy.Goals as goal

pub returns : goal.returns
returns g c its s p both = copies_alike its s p both
