use Rattle.std.proofs.lemmas.Bool.Decides.{nat_tests}
use Rattle.std.proofs.Common.{arith}
use Rattle.queue_laws.proofs.BoundedRuns.{a_ring_is_a_queue}
use Rattle.queue_laws.proofs.laws.a_ring_is_a_closable_queue.Goals as goal

pub returns : goal.returns
returns = grind (arith, nat_tests, a_ring_is_a_queue)
