use Rattle.solo_laws.proofs.Following.Counted.{runs_give_way}
use Rattle.solo_laws.proofs.running.runs_give_way_alike.Goals as goal

pub returns : goal.returns
returns g c its s p both = runs_give_way its s p both
