-- The check was called at what stood beside the futures.
use Rattle.std.proofs.Common.{refl}
use Rattle.orders.proofs.playing.play.Goals as goal

pub returns-clause-asks : goal.returns-clause-asks
returns-clause-asks g c = (
  c.play.new.beside,
  c.play.new.self.is_over,
  c.check-is_right.result,
  record { shown = _; shows = refl; called = c.check-is_right.ensures },
  c.end.ensures,
)
