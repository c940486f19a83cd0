-- For common_futures_are_in_reach and arrival_order_needs_fewer_ticks.
-- What holds of the requests and of the own queues of each machine to which steps lead.
use Rattle.std.proofs.Common.{sym, subst}
use Rattle.executor_model.specs.Steps.{Machine}
use Rattle.executor_model.proofs.{Polls.AskingExecutions.Heard, Polls.AskingExecutions.heard, Steps.Reached.Reached}
use Rattle.executor_laws.proofs.Placement.BoundWays.{Bonded, bonded}

pub heard-here : (s : Machine) → Reached s → Heard s
heard-here s r = subst Heard (sym r.is) (heard r.limit r.kind r.parties r.steps)

pub bonded-here : (s : Machine) → Reached s → Bonded s
bonded-here s r = subst Bonded (sym r.is) (bonded r.limit r.kind r.parties r.steps)
