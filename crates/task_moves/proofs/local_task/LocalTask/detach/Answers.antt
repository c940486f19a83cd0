use Rattle.std.proofs.Common.{sym}
use Rattle.task_moves.proofs.Detaching as detaching
use Rattle.task_moves.proofs.local_task.LocalTask.detach.Goals as goal

pub invariant_of-self : goal.invariant_of-self
invariant_of-self g c =
    rw c.take.ensures.after (detaching.sound_output _ _ _ c.detach-first.ensures c.in-Some.is c.detach-second.ensures c.self.invariant)

pub invariant_of-self-in-None : goal.invariant_of-self-in-None
invariant_of-self-in-None g c = detaching.sound _ c.detach-first.ensures c.in-None.is c.self.invariant

pub returns-in-Some-clause-task : goal.returns-in-Some-clause-task
returns-in-Some-clause-task g c =
    rw (c.take.ensures.after, sym c.self.view_is)
    (λ i. record { task = detaching.task_output _ _ _ c.detach-first.ensures c.in-Some.is c.detach-second.ensures c.self.invariant i; future = c.self.inside.future; metadata = c.self.inside.metadata })

pub returns-in-None-clause-task : goal.returns-in-None-clause-task
returns-in-None-clause-task g c =
    rw (sym c.self.view_is) (λ i. record { task = detaching.task _ c.detach-first.ensures c.in-None.is c.self.invariant i; future = c.self.inside.future; metadata = c.self.inside.metadata })
