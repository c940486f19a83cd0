use Rattle.std.proofs.Common.{refl, subst}
use Rattle.waiting.proofs.Joining.{HasJoined, joins_at}
use Rattle.async_lock.proofs.round.Round.sit.Goals as goal

pub unreachable-requires : goal.unreachable-requires
unreachable-requires g c =
    subst (λ r. HasJoined c.args.waker c.args.self.now.waiters c.look.new.self r) c.in-Told.is
    (joins_at c.args.waker c.in-Ok.listening.number c.args.self.now.waiters c.listen.new.self c.look.new.self c.look.result
    c.in-Ok.ensures.number c.in-Ok.ensures.listens c.look.ensures)

pub returns-clause-sat : goal.returns-clause-sat
returns-clause-sat g c =
    let j = subst (λ r. HasJoined c.args.waker c.args.self.now.waiters c.look.new.self r) c.in-Waits.is
    (joins_at c.args.waker c.in-Ok.listening.number c.args.self.now.waiters c.listen.new.self c.look.new.self c.look.result
    c.in-Ok.ensures.number c.in-Ok.ensures.listens c.look.ensures) in
    (j.0, refl, j.1)
