-- For runs_are_ready_at_their_end.
-- A poll of a run is answered that its own future is ready only where the run has ended.
use Rattle.std.proofs.Common.{ℕ, List}
use Rattle.executor_model.specs.{Steps.run, Steps.start, World.run_of}
use Rattle.executor_laws.specs.RunAnswers.{IsReadyAtItsEnd}
use Rattle.executor_laws.proofs.{Types.Kind, Types.Step, Placement.BoundWays.bonded, Placement.Running.over-ended}

pub ready-at-the-end : (limit : ℕ) (kind : Kind) (parties : ℕ) (steps : List Step) (r : ℕ) →
    IsReadyAtItsEnd (run steps (start limit kind parties)) r
ready-at-the-end limit kind parties steps r party poll e k =
    over-ended (run_of (run steps (start limit kind parties)).world r).stage
    (((bonded limit kind parties steps).ran r).answered party poll e k)
