use Rattle.solo_laws.proofs.Following.Freeing.{goes_on_alike}
use Rattle.solo_laws.proofs.roads.a_close_goes_on.Goals as goal

pub returns : goal.returns
returns g c its s p choice all gone left rest r is few life = goes_on_alike its choice s p all gone left rest r is few life
