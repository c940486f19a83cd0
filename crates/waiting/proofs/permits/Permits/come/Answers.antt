use Rattle.std.proofs.Common.{◌∙◌, Err, ap, subst}
use Rattle.waiting.proofs.Joining.{HasJoined, joins, joins_at}
use Rattle.waiting.specs.Permits.{HasTaken, all_of}
use Rattle.waiting.proofs.permits.Permits.come.Goals as goal

pub unreachable-requires : goal.unreachable-requires
unreachable-requires g c =
    subst (λ r. HasJoined c.args.waker c.self.inside.waiters c.look.new.self r) c.in-Told.is
    (joins_at c.args.waker c.in-Ok-listen.listening.number c.self.inside.waiters c.listen.new.self c.look.new.self c.look.result
    c.in-Ok-listen.ensures.number c.in-Ok-listen.ensures.listens c.look.ensures)

pub returns-clause-found : goal.returns-clause-found
returns-clause-found g c =
    let t = subst (λ r. HasTaken c.args.self.now c.take.new.self (Err r)) c.in-Err-NoPermits.field-0-is c.in-Err-NoPermits.ensures.taken in
    let j = joins c.args.waker c.args.self.now _ c.look.new.self c.in-Waits.listening c.in-Waits.before (c.self.view_is ∙ t.2)
    (subst (λ r. HasJoined c.args.waker c.self.inside.waiters c.look.new.self r) c.in-Waits.is
    (joins_at c.args.waker c.in-Ok-listen.listening.number c.self.inside.waiters c.listen.new.self c.look.new.self c.look.result
    c.in-Ok-listen.ensures.number c.in-Ok-listen.ensures.listens c.look.ensures)) in
    (t.0, t.1, j.0, j.1, j.2)

pub returns-clause-all : goal.returns-clause-all
returns-clause-all g c = ap (λ p. all_of p) c.self.view_is ∙ c.in-Err-NoPermits.ensures.all
