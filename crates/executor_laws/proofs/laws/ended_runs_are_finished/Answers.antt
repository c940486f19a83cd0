use Rattle.executor_laws.proofs.Placement.EndedRuns.{finished-at-once}
use Rattle.executor_laws.proofs.laws.ended_runs_are_finished.Goals as goal

pub returns : goal.returns
returns c = finished-at-once
