use Rattle.std.proofs.Common.{sym}
use Rattle.task_moves.proofs.Starting as starting
use Rattle.task_moves.proofs.local_task.LocalTask.start.Goals as goal

pub invariant_of-self-in-Some : goal.invariant_of-self-in-Some
invariant_of-self-in-Some g c =
    rw c.taken-in-Some.ensures.left
    (starting.sound_dropping _ _ c.take_up-begun.ensures c.in-Some.is (rw (sym c.self.view_is) at c.requires.queued) c.self.invariant)
