use Rattle.machine_roads.proofs.Untaken.{calls_beside, loses_beside, loss_ends_beside}
use Rattle.machine_roads.proofs.roads.calls_beside_a_lost_output_are_calls.Goals as goal

pub returns-clause-calls : goal.returns-clause-calls
returns-clause-calls g p f awaiter gs below w q d hints c x under stands is stays many has rests =
    calls_beside p f awaiter gs below w q d hints c x under stands is stays many has rests

pub returns-clause-comes : goal.returns-clause-comes
returns-clause-comes g p f awaiter gs below w q d hints c x under stands is some has rests =
    loses_beside p f awaiter gs below w q d hints c x under stands is some has rests

pub returns-clause-ends : goal.returns-clause-ends
returns-clause-ends g p f awaiter gs below w q d hints h under stands has rests =
    loss_ends_beside p f awaiter gs below w q d hints h under stands has rests
