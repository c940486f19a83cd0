use Rattle.std.specs.Prelude.{map, vec_len}
use Rattle.executor_core.specs.FallingAsleep.{all_gone}
use Rattle.executor_core.proofs.TicksLeaving.{Alike}
use Rattle.executor_core.proofs.RunsLeaving.{places_of}
use Rattle.executor_core.proofs.runs.runs.Runs.leave.Given as goal

abbrev pub invariant-loop-run : goal.invariant-loop-run
invariant-loop-run l =
    Alike (all_gone (places_of l.runs.items) l.flagged_sleepers) (all_gone (map (λ x. x.place) l.fn.self.runs) l.fn.flagged_sleepers)

abbrev pub decreases-loop-run : goal.decreases-loop-run
decreases-loop-run l = vec_len l.runs
