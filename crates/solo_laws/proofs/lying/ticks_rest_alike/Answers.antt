use Rattle.solo_laws.proofs.Following.TickResting.{ticks_rest}
use Rattle.solo_laws.proofs.lying.ticks_rest_alike.Goals as goal

pub returns : goal.returns
returns g c its number s p both numbers = ticks_rest its number s p both numbers
