use Rattle.std.proofs.Common.{sym}
use Rattle.task_moves.proofs.Settling as settling
use Rattle.task_moves.proofs.local_task.LocalTask.settle_ready.Goals as goal

pub invariant_of-self : goal.invariant_of-self
invariant_of-self g c =
    rw (c.put.ensures, c.give_up-awaiter.ensures.rest)
    (settling.sound_unwanted _ _ c.end_ready-ended.ensures c.if-ended.true c.give_up-awaiter.ensures.state (rw (sym c.self.view_is) at c.requires.lent) c.self.invariant)

pub invariant_of-self-else-ended : goal.invariant_of-self-else-ended
invariant_of-self-else-ended g c =
    rw (c.put.ensures, c.store.ensures, c.give_up-awaiter.ensures.rest)
    (settling.sound_wanted _ _ _ c.end_ready-ended.ensures c.if-ended.false c.give_up-awaiter.ensures.state (rw (sym c.self.view_is) at c.requires.lent) c.self.invariant)
