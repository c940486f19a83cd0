use Rattle.solo_laws.proofs.Following.RunSearching.{runs_take_common}
use Rattle.solo_laws.proofs.running.runs_take_what_nobody_keeps.Goals as goal

pub returns : goal.returns
returns g c its number s p both numbers = runs_take_common its number s p both numbers
