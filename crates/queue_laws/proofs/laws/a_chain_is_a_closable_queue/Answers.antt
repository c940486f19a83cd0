use Rattle.queue_laws.proofs.UnboundedRuns.{a_chain_is_a_queue}
use Rattle.queue_laws.proofs.laws.a_chain_is_a_closable_queue.Goals as goal

pub returns : goal.returns
returns g c steps = a_chain_is_a_queue steps
