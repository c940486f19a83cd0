use Rattle.solo_laws.proofs.Following.NextOnes.{robs_alike}
use Rattle.solo_laws.proofs.running.runs_rob_alike.Goals as goal

pub returns : goal.returns
returns g c its s p both = robs_alike its s p both
