use Rattle.solo_laws.proofs.Following.TickRefusing.{ticks_refused, ticks_lie_refused}
use Rattle.solo_laws.proofs.lying.ticks_are_refused_alike.Goals as goal

pub returns-clause-once : goal.returns-clause-once
returns-clause-once g c its number s p both numbers = ticks_refused its number s p both numbers

pub returns-clause-later : goal.returns-clause-later
returns-clause-later g c its number s p both numbers = ticks_lie_refused its number s p both numbers
