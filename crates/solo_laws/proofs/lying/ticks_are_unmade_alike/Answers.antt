use Rattle.solo_laws.proofs.Following.TickRefusing.{ticks_unmade}
use Rattle.solo_laws.proofs.lying.ticks_are_unmade_alike.Goals as goal

pub returns : goal.returns
returns g c its number s p both numbers = ticks_unmade its number s p both numbers
