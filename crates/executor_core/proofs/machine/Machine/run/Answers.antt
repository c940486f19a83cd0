use Rattle.executor_core.specs.AllLaws.{AllLaws}
use Rattle.executor_core.proofs.Reaching.{machine_law_here}
use Rattle.executor_core.proofs.machine.Machine.run.Goals as goal

pub returns-clause-laws : goal.returns-clause-laws
returns-clause-laws c = machine_law_here AllLaws c.all_laws.ensures _ c.run_on-refused.ensures.reached
