use Rattle.executor_model.proofs.SpawnWants.Wants.{spawns-want}
use Rattle.executor_model.proofs.call_laws.spawns_want_memory_as_told.Goals as goal

pub returns : goal.returns
returns c = spawns-want
