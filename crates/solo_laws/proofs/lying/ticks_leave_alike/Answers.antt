use Rattle.solo_laws.proofs.Following.TickLeaving.{ticks_leave}
use Rattle.solo_laws.proofs.lying.ticks_leave_alike.Goals as goal

pub returns : goal.returns
returns g c its number s p both numbers = ticks_leave its number s p both numbers
