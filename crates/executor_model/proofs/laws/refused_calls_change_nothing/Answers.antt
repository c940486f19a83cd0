use Rattle.executor_model.proofs.Memory.Refusing.{refused-changes-nothing}
use Rattle.executor_model.proofs.laws.refused_calls_change_nothing.Goals as goal

pub returns : goal.returns
returns c = refused-changes-nothing
