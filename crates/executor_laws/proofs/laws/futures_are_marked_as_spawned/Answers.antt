use Rattle.executor_laws.proofs.Marking.MarkSpawns.{marked-as-spawned}
use Rattle.executor_laws.proofs.laws.futures_are_marked_as_spawned.Goals as goal

pub returns : goal.returns
returns c = marked-as-spawned
