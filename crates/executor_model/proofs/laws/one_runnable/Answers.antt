use Rattle.executor_model.proofs.Steps.Lift.{good}
use Rattle.executor_model.proofs.laws.one_runnable.Goals as goal

pub returns : goal.returns
returns c = λ limit kind parties steps f. ((good limit kind parties steps).sound f).one
