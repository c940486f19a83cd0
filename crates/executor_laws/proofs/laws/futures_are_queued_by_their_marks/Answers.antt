use Rattle.executor_laws.proofs.Marking.MarkQueues.{queued-by-mark}
use Rattle.executor_laws.proofs.laws.futures_are_queued_by_their_marks.Goals as goal

pub returns : goal.returns
returns c = queued-by-mark
