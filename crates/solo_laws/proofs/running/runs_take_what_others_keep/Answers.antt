use Rattle.solo_laws.proofs.Following.RunWalking.{runs_take_kept}
use Rattle.solo_laws.proofs.running.runs_take_what_others_keep.Goals as goal

pub returns : goal.returns
returns g c its number s p both numbers = runs_take_kept its number s p both numbers
