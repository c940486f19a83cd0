use Rattle.solo_laws.proofs.Following.RunPolling.{runs_dropped, overs_dropped}
use Rattle.solo_laws.proofs.running.runs_are_dropped_alike.Goals as goal

pub returns-clause-going : goal.returns-clause-going
returns-clause-going g c its number s p both numbers = runs_dropped its number s p both numbers

pub returns-clause-over : goal.returns-clause-over
returns-clause-over g c its number s p both numbers = overs_dropped its number s p both numbers
