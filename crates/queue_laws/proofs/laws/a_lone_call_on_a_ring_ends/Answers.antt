use Rattle.std.proofs.lemmas.Bool.Decides.{nat_tests}
use Rattle.std.proofs.Common.{arith}
use Rattle.queue_laws.proofs.BoundedLone.{a_lone_call_ends}
use Rattle.queue_laws.proofs.laws.a_lone_call_on_a_ring_ends.Goals as goal

pub returns : goal.returns
returns = grind (arith, nat_tests, a_lone_call_ends)
