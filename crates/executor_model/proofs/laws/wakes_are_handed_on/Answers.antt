use Rattle.executor_model.specs.Steps.{run, start}
use Rattle.executor_model.proofs.Polls.HandingOn.{hands-on, on-its-way}
use Rattle.executor_model.proofs.Steps.Lift.{good}
use Rattle.executor_model.proofs.laws.wakes_are_handed_on.Goals as goal

pub returns-clause-handed : goal.returns-clause-handed
returns-clause-handed g w f p h = hands-on w f p h

pub returns-clause-marked : goal.returns-clause-marked
returns-clause-marked g limit kind parties steps f =
    on-its-way (run steps (start limit kind parties)) f (good limit kind parties steps)
