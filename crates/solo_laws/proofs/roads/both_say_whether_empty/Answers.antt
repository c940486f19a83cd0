use Rattle.solo_laws.proofs.Following.Refusing.{empty_alike}
use Rattle.solo_laws.proofs.roads.both_say_whether_empty.Goals as goal

pub returns : goal.returns
returns g c its s p both = empty_alike its s p both
