use Rattle.solo_laws.proofs.Following.Losing.{loses_alike}
use Rattle.solo_laws.proofs.roads.an_output_goes_alike.Goals as goal

pub returns : goal.returns
returns g c its s p both = loses_alike its s p both
