use Rattle.solo_laws.proofs.Following.Spawning.{spawns_alike}
use Rattle.solo_laws.proofs.roads.a_spawn_is_a_spawn.Goals as goal

pub returns : goal.returns
returns g c its s p both = spawns_alike its s p both
