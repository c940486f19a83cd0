use Rattle.solo_laws.proofs.Following.RunTaking.{runs_take_own}
use Rattle.solo_laws.proofs.running.runs_take_what_they_keep.Goals as goal

pub returns : goal.returns
returns g c its number s p both numbers = runs_take_own its number s p both numbers
