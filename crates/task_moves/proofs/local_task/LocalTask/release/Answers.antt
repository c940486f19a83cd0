use Rattle.std.proofs.Common.{sym}
use Rattle.task_moves.proofs.Releasing as releasing
use Rattle.task_moves.proofs.local_task.LocalTask.release.Goals as goal

pub invariant_of-self : goal.invariant_of-self
invariant_of-self g c = rw c.release-released.ensures (releasing.sound (rw (sym c.self.view_is) at c.requires.held) c.self.invariant)

pub returns-clause-task : goal.returns-clause-task
returns-clause-task g c =
    rw (c.release-released.ensures, sym c.self.view_is) (λ i. record { task = releasing.task (rw (sym c.self.view_is) at c.requires.held) c.self.invariant i; future = c.self.inside.future; metadata = c.self.inside.metadata })

pub returns-clause-queue : goal.returns-clause-queue
returns-clause-queue g c =
    rw (c.release-released.ensures, sym c.self.view_is) (releasing.info (rw (sym c.self.view_is) at c.requires.held) c.self.invariant)
