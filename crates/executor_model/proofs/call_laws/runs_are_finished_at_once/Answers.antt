use Rattle.executor_model.proofs.Promises.FinishedRuns.{finished-at-once}
use Rattle.executor_model.proofs.call_laws.runs_are_finished_at_once.Goals as goal

pub returns : goal.returns
returns c = finished-at-once
