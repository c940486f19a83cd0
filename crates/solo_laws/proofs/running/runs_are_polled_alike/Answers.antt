use Rattle.solo_laws.proofs.Following.RunPolling.{runs_polled, overs_polled, owns_ready}
use Rattle.solo_laws.proofs.running.runs_are_polled_alike.Goals as goal

pub returns-clause-going : goal.returns-clause-going
returns-clause-going g c its number s p both numbers = runs_polled its number s p both numbers

pub returns-clause-over : goal.returns-clause-over
returns-clause-over g c its number s p both numbers = overs_polled its number s p both numbers

pub returns-clause-ready : goal.returns-clause-ready
returns-clause-ready g c its number s p both numbers = owns_ready its number s p both numbers
