-- The check was called at what stood beside the futures.
use Rattle.std.proofs.Common.{refl}
use Rattle.orders.proofs.replay.fails_again.Goals as goal

pub returns : goal.returns
returns g c = (
  c.end.result.end,
  (
    c.play.new.beside,
    c.play.new.self.is_over,
    c.check-is_right.result,
    (_, c.check-is_right.ensures, refl),
    c.end.ensures,
  ),
  c.is_end.ensures,
)
