use Rattle.solo_laws.proofs.Following.RunLeaving.{runs_leave}
use Rattle.solo_laws.proofs.running.runs_leave_alike.Goals as goal

pub returns : goal.returns
returns g c its number s p both numbers = runs_leave its number s p both numbers
