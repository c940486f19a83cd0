use Rattle.solo_laws.proofs.Following.Begun.{takes_alike}
use Rattle.solo_laws.proofs.roads.a_take_is_a_try.Goals as goal

pub returns : goal.returns
returns g c its s p both choice first many life = takes_alike its choice s p both first many life
