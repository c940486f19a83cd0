use Rattle.executor_model.specs.Steps.{run, start}
use Rattle.executor_model.proofs.Polls.AskingExecutions.{heard}
use Rattle.executor_model.proofs.Polls.Waking.{woken-between}
use Rattle.executor_model.proofs.trace_laws.polls_are_asked_for.Goals as goal

pub returns : goal.returns
returns c = λ limit kind parties steps f. woken-between f (run steps (start limit kind parties)).world.trace
    ((heard limit kind parties steps).asked f).fair
