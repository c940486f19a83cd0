use Rattle.executor_laws.proofs.Placement.RunAnswers.{ready-at-the-end}
use Rattle.executor_laws.proofs.laws.runs_are_ready_at_their_end.Goals as goal

pub returns : goal.returns
returns c = ready-at-the-end
