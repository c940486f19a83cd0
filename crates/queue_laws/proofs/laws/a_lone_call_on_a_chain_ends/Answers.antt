use Rattle.queue_laws.proofs.UnboundedLone.{a_lone_call_ends}
use Rattle.queue_laws.proofs.laws.a_lone_call_on_a_chain_ends.Goals as goal

pub returns : goal.returns
returns g c steps = a_lone_call_ends steps
