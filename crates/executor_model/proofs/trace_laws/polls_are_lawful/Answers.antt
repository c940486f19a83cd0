use Rattle.executor_model.specs.Steps.{run, start}
use Rattle.executor_model.proofs.Steps.Lift.{good}
use Rattle.executor_model.proofs.Polls.Lawful.{lawful}
use Rattle.executor_model.proofs.trace_laws.polls_are_lawful.Goals as goal

pub returns : goal.returns
returns c = λ limit kind parties steps f. lawful f (run steps (start limit kind parties)).world.trace
    ((good limit kind parties steps).sound f).lawful
