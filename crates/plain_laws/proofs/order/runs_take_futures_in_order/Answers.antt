use Rattle.std.proofs.lemmas.Bool.Decides.{nat_tests}
use Rattle.std.proofs.Common.{arith}
use Rattle.plain_laws.proofs.InOrder.{in_order}
use Rattle.plain_laws.proofs.order.runs_take_futures_in_order.Goals as goal

pub returns : goal.returns
returns = grind (arith, nat_tests, in_order)
