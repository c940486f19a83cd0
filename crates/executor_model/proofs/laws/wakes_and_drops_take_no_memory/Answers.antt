use Rattle.executor_model.proofs.Memory.UnaskingGroups.{needs-no-memory}
use Rattle.executor_model.proofs.laws.wakes_and_drops_take_no_memory.Goals as goal

pub returns : goal.returns
returns c = needs-no-memory
