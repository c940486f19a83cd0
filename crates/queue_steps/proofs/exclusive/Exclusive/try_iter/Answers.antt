use Rattle.queue_steps.proofs.IterLemmas.{walks}
use Rattle.queue_steps.proofs.exclusive.Exclusive.try_iter.Goals as goal

pub returns-clause-walks : goal.returns-clause-walks
returns-clause-walks g c items later run = walks (record { queue = c.args.self }) items later run
