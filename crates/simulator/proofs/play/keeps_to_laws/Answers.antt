use Rattle.executor_core.specs.AllLaws.{AllLaws}
use Rattle.executor_core.proofs.Reaching.{machine_law_here}
use Rattle.simulator.proofs.play.keeps_to_laws.Goals as goal

pub returns : goal.returns
returns c = machine_law_here AllLaws c.all_laws.ensures _ c.is_reached.ensures
