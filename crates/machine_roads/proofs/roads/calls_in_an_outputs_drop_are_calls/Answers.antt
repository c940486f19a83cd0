use Rattle.machine_roads.proofs.InLoss.{calls_in_loss, loses_in_loss, loss_ends_in_loss}
use Rattle.machine_roads.proofs.roads.calls_in_an_outputs_drop_are_calls.Goals as goal

pub returns-clause-calls : goal.returns-clause-calls
returns-clause-calls g p fs below w q d hints c x under losing is stays many has rests =
    calls_in_loss p fs below w q d hints c x under losing is stays many has rests

pub returns-clause-comes : goal.returns-clause-comes
returns-clause-comes g p fs below w q d hints c x under losing is some has rests =
    loses_in_loss p fs below w q d hints c x under losing is some has rests

pub returns-clause-ends : goal.returns-clause-ends
returns-clause-ends g p fs below w q d hints f under losing has rests =
    loss_ends_in_loss p fs below w q d hints f under losing has rests
