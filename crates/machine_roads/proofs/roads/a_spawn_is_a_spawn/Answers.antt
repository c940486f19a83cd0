use Rattle.machine_roads.proofs.Calling.{spawns}
use Rattle.machine_roads.proofs.roads.a_spawn_is_a_spawn.Goals as goal

pub returns : goal.returns
returns g p here below w q under follows = spawns p below under here w q follows
