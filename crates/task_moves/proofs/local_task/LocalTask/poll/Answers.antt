use Rattle.std.proofs.Common.{sym}
use Rattle.task_moves.proofs.Answering as answering
use Rattle.task_moves.proofs.local_task.LocalTask.poll.Goals as goal

pub invariant_of-self : goal.invariant_of-self
invariant_of-self g c =
    rw c.replace.ensures.after (answering.sound_waiting _ _ _ c.poll-look.ensures c.in-None.is c.register-self-inside.ensures c.self.invariant)

pub returns-in-None-clause-task : goal.returns-in-None-clause-task
returns-in-None-clause-task g c =
    rw (c.replace.ensures.after, sym c.self.view_is)
    (λ i. record { task = answering.task_waiting _ _ c.args.waker c.poll-look.ensures c.in-None.is c.register-self-inside.ensures c.self.invariant i; future = c.self.inside.future; metadata = c.self.inside.metadata })

pub returns-in-None-clause-answer : goal.returns-in-None-clause-answer
returns-in-None-clause-answer g c =
    rw (c.replace.ensures.value, sym c.self.view_is) (answering.answer_waiting _ _ c.poll-look.ensures c.in-None.is c.self.invariant)

pub invariant_of-self-in_default : goal.invariant_of-self-in_default
invariant_of-self-in_default g c =
    answering.sound_closed _ _ _ c.poll-look.ensures c.in-Some.is c.in_default.not-Output c.notify_nobody-self-inside.ensures (rw (sym c.self.view_is) at c.requires.handle) c.self.invariant

pub returns-in_default-clause-task : goal.returns-in_default-clause-task
returns-in_default-clause-task g c =
    rw (sym c.self.view_is)
    (λ i. record { task = answering.task_closed _ _ _ c.args.waker c.poll-look.ensures c.in-Some.is c.in_default.not-Output c.notify_nobody-self-inside.ensures (rw (sym c.self.view_is) at c.requires.handle) c.self.invariant i; future = c.self.inside.future; metadata = c.self.inside.metadata })

pub returns-in_default-clause-answer : goal.returns-in_default-clause-answer
returns-in_default-clause-answer g c =
    rw (sym c.self.view_is) (answering.answer_closed _ _ c.args.waker c.poll-look.ensures c.in-Some.is c.in_default.not-Output c.self.invariant)
