use Rattle.machine_roads.proofs.InForgotten.{calls_forgotten, loses_forgotten, loss_ends_forgotten}
use Rattle.machine_roads.proofs.roads.calls_in_a_forgotten_futures_drop_are_calls.Goals as goal

pub returns-clause-calls : goal.returns-clause-calls
returns-clause-calls g p f gs below w q d hints c x under stands is stays many has rests =
    calls_forgotten p f gs below w q d hints c x under stands is stays many has rests

pub returns-clause-comes : goal.returns-clause-comes
returns-clause-comes g p f gs below w q d hints c x under stands is some has rests =
    loses_forgotten p f gs below w q d hints c x under stands is some has rests

pub returns-clause-ends : goal.returns-clause-ends
returns-clause-ends g p f gs below w q d hints h under stands has rests =
    loss_ends_forgotten p f gs below w q d hints h under stands has rests
