use Rattle.executor_model.proofs.Promises.SpawnLimits.{spawns-limited}
use Rattle.executor_model.proofs.call_laws.spawns_are_limited.Goals as goal

pub returns : goal.returns
returns c = spawns-limited
