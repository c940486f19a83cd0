use Rattle.std.proofs.Common.{◌∙◌, ap, subst}
use Rattle.waiting.proofs.Joining.{HasJoined, joins_at}
use Rattle.waiting.specs.Waiters.{Waiters}
use Rattle.async_lock.specs.Rooms.{joined}
use Rattle.async_lock.proofs.room.Room.come.Goals as goal

pub unreachable-requires : goal.unreachable-requires
unreachable-requires g c =
    subst (λ r. HasJoined c.args.waker c.take.new.self.waiters c.look.new.self r) c.in-Told.is
    (joins_at c.args.waker c.in-Ok.listening.number c.take.new.self.waiters c.listen.new.self c.look.new.self c.look.result
    c.in-Ok.ensures.number c.in-Ok.ensures.listens c.look.ensures)

pub returns : goal.returns
returns g c =
    let j = subst (λ r. HasJoined c.args.waker c.take.new.self.waiters c.look.new.self r) c.in-Waits.is
    (joins_at c.args.waker c.in-Ok.listening.number c.take.new.self.waiters c.listen.new.self c.look.new.self c.look.result
    c.in-Ok.ensures.number c.in-Ok.ensures.listens c.look.ensures) in
    let e = c.in_default.ensures.waiters in
    (c.in_default.ensures.taken.0, c.in_default.ensures.taken.1, j.0 ∙ ap (λ (w : Waiters _). joined c.args.waker w) e, j.1 ∙ ap (λ (w : Waiters _). w.next) e, j.2)
