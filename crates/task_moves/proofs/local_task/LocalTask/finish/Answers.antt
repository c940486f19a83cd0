use Rattle.std.proofs.Common.{sym}
use Rattle.task_moves.proofs.Finishing as finishing
use Rattle.task_moves.proofs.local_task.LocalTask.finish.Goals as goal

pub give_up-awaiter-requires-clause-next : goal.give_up-awaiter-requires-clause-next
give_up-awaiter-requires-clause-next g c =
    finishing.next_is _ _ c.in-Some.is c.after-settled.ensures (rw (sym c.self.view_is) at c.requires.dropped) c.self.invariant

pub give_up-awaiter-requires-clause-held : goal.give_up-awaiter-requires-clause-held
give_up-awaiter-requires-clause-held g c =
    finishing.held _ _ c.in-Some.is c.after-settled.ensures (rw (sym c.self.view_is) at c.requires.dropped) c.self.invariant

pub invariant_of-self : goal.invariant_of-self
invariant_of-self g c =
    rw (c.put.ensures, c.give_up-awaiter.ensures.rest)
    (finishing.sound _ _ _ c.in-Some.is c.after-settled.ensures c.give_up-awaiter.ensures.state (rw (sym c.self.view_is) at c.requires.dropped) c.self.invariant)

pub returns-in-Some-clause-task : goal.returns-in-Some-clause-task
returns-in-Some-clause-task g c =
    rw (c.give_up-awaiter.ensures.rest, sym c.self.view_is)
    (finishing.task _ _ _ c.in-Some.is c.after-settled.ensures c.give_up-awaiter.ensures.state (rw (sym c.self.view_is) at c.requires.dropped) c.self.invariant)

pub returns-in-Some-clause-answer : goal.returns-in-Some-clause-answer
returns-in-Some-clause-answer g c =
    rw (c.woken.ensures, c.give_up-awaiter.ensures.called, sym c.self.view_is)
    (finishing.answer _ _ c.in-Some.is c.after-settled.ensures (rw (sym c.self.view_is) at c.requires.dropped) c.self.invariant)
