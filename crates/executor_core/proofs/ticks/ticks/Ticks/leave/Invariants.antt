use Rattle.std.specs.Prelude.{map, vec_len}
use Rattle.executor_core.specs.FallingAsleep.{all_gone}
use Rattle.executor_core.specs.Ticks.{as_ticker}
use Rattle.executor_core.proofs.TicksLeaving.{Alike}
use Rattle.executor_core.proofs.ticks.ticks.Ticks.leave.Given as goal

abbrev pub invariant-loop-place : goal.invariant-loop-place
invariant-loop-place l =
    Alike (all_gone (map as_ticker l.places.items) l.flagged_sleepers) (all_gone l.fn.self.places l.fn.flagged_sleepers)

abbrev pub decreases-loop-place : goal.decreases-loop-place
decreases-loop-place l = vec_len l.places
