use Rattle.std.proofs.Common.{sym}
use Rattle.task_moves.proofs.Waking.{task_of-wake, sound-wake}
use Rattle.task_moves.proofs.local_task.LocalTask.wake.Goals as goal

pub invariant_of-self : goal.invariant_of-self
invariant_of-self g c = rw c.wake_by_reference-woken.ensures (sound-wake c.self.invariant)

pub returns-clause-task : goal.returns-clause-task
returns-clause-task g c =
    let l = c.self.inside in
    let s = l.state in
    rw (c.wake_by_reference-woken.ensures, sym c.self.view_is) (λ i. record { task = task_of-wake s.completed s.running s.scheduled s.closed s.handle s.awaiter s.registering s.notifying s.references l.output l.awaiter i; future = l.future; metadata = l.metadata })
