use Rattle.machine_roads.proofs.InDrop.{calls_in_drop, loses_in_drop, loss_ends_in_drop}
use Rattle.machine_roads.proofs.roads.calls_in_the_executors_drop_are_calls.Goals as goal

pub returns-clause-calls : goal.returns-clause-calls
returns-clause-calls g p below w fs all codes q c x d hints under is off made stays has rests =
    calls_in_drop p below w fs all codes q c x d hints under is off made stays has rests

pub returns-clause-comes : goal.returns-clause-comes
returns-clause-comes g p below w fs all codes q c x d hints under is off made some has rests =
    loses_in_drop p below w fs all codes q c x d hints under is off made some has rests

pub returns-clause-ends : goal.returns-clause-ends
returns-clause-ends g p f below w fs all codes q d hints under is has rests =
    loss_ends_in_drop p f below w fs all codes q d hints under is has rests
