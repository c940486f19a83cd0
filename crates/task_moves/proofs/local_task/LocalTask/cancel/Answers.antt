use Rattle.std.proofs.Common.{sym}
use Rattle.task_moves.proofs.Cancelling as cancelling
use Rattle.task_moves.proofs.local_task.LocalTask.cancel.Goals as goal

pub invariant_of-self : goal.invariant_of-self
invariant_of-self g c = rw (c.notify-awaiter.ensures.state, c.notify-awaiter.ensures.rest, c.cancel-cancelled.ensures) (cancelling.sound c.self.invariant)

pub returns-clause-task : goal.returns-clause-task
returns-clause-task g c =
    rw (c.notify-awaiter.ensures.state, c.notify-awaiter.ensures.rest, c.cancel-cancelled.ensures, sym c.self.view_is)
    (λ i. record { task = cancelling.task c.self.invariant i; future = c.self.inside.future; metadata = c.self.inside.metadata })

pub returns-clause-awaiter : goal.returns-clause-awaiter
returns-clause-awaiter g c =
    rw (c.notify-awaiter.ensures.called, c.cancel-cancelled.ensures, sym c.self.view_is) (cancelling.called_is c.self.invariant)
