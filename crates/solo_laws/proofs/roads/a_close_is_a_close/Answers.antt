use Rattle.solo_laws.proofs.Following.Freeing.{closes_alike}
use Rattle.solo_laws.proofs.roads.a_close_is_a_close.Goals as goal

pub returns : goal.returns
returns g c its s p both choice owned all few life = closes_alike its choice s p both owned all few life
