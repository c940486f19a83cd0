use Rattle.solo_laws.proofs.Following.Leaking.{leaks_alike}
use Rattle.solo_laws.proofs.roads.a_leak_is_a_leak.Goals as goal

pub returns : goal.returns
returns g c its s p both choice owned many life = leaks_alike its choice s p both owned many life
