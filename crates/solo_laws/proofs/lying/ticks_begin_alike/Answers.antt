use Rattle.solo_laws.proofs.Following.TickLeaving.{ticks_begin}
use Rattle.solo_laws.proofs.lying.ticks_begin_alike.Goals as goal

pub returns : goal.returns
returns g c its number s p both numbers = ticks_begin its number s p both numbers
