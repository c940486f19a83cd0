use Rattle.executor_laws.proofs.Promptness.Emptied.{no-means-empty}
use Rattle.executor_laws.proofs.laws.no_means_that_nothing_was_queued.Goals as goal

pub returns : goal.returns
returns c = no-means-empty
