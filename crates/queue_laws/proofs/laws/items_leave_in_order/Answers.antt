use Rattle.std.proofs.lemmas.Bool.Decides.{nat_tests}
use Rattle.std.proofs.Common.{arith}
use Rattle.queue_laws.proofs.Order.{on_a_slot, on_a_ring, on_a_chain}
use Rattle.queue_laws.proofs.laws.items_leave_in_order.Goals as goal

pub returns-clause-slot : goal.returns-clause-slot
returns-clause-slot g c steps = on_a_slot steps

pub returns-clause-ring : goal.returns-clause-ring
returns-clause-ring = grind (arith, nat_tests, on_a_ring)

pub returns-clause-chain : goal.returns-clause-chain
returns-clause-chain g c steps = on_a_chain steps
