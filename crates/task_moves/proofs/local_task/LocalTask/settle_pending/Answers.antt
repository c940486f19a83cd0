use Rattle.std.proofs.Common.{sym}
use Rattle.task_moves.proofs.Settling as settling
use Rattle.task_moves.proofs.local_task.LocalTask.settle_pending.Goals as goal

pub invariant_of-self : goal.invariant_of-self
invariant_of-self g c =
    rw c.put.ensures
    (settling.sound_dropping _ _ c.end_pending-ended.ensures c.in-Some.is (rw (sym c.self.view_is) at c.requires.lent) c.self.invariant)

pub invariant_of-self-in-None : goal.invariant_of-self-in-None
invariant_of-self-in-None g c =
    rw c.put-in-None.ensures
    (settling.sound_home _ _ c.end_pending-ended.ensures c.in-None.is (rw (sym c.self.view_is) at c.requires.lent) c.self.invariant)

pub returns-in-Some-clause-task : goal.returns-in-Some-clause-task
returns-in-Some-clause-task g c =
    rw (sym c.self.view_is)
    (settling.task_dropping _ _ c.args.future c.end_pending-ended.ensures c.in-Some.is (rw (sym c.self.view_is) at c.requires.lent) c.self.invariant)

pub returns-in-Some-clause-place : goal.returns-in-Some-clause-place
returns-in-Some-clause-place g c =
    rw (c.put.ensures, sym c.self.view_is)
    (settling.place_dropping _ _ _ c.end_pending-ended.ensures c.in-Some.is (rw (sym c.self.view_is) at c.requires.lent) c.self.invariant)
