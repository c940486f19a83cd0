use Rattle.solo_laws.proofs.Showing.Spawning.{spawns_shown}
use Rattle.solo_laws.proofs.answers.spawns_show_alike.Goals as goal

pub returns : goal.returns
returns g c its s p both = spawns_shown its s p both
