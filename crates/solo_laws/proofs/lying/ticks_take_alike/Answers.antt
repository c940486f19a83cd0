use Rattle.solo_laws.proofs.Following.TickTaking.{ticks_take}
use Rattle.solo_laws.proofs.lying.ticks_take_alike.Goals as goal

pub returns : goal.returns
returns g c its number s p both numbers = ticks_take its number s p both numbers
