use Rattle.std.proofs.lemmas.Bool.Decides.{nat_tests}
use Rattle.std.proofs.Common.{arith}
use Rattle.plain_laws.proofs.Altogether.{all_in_order}
use Rattle.plain_laws.proofs.order.runs_take_plain_futures_in_order.Goals as goal

pub returns : goal.returns
returns = grind (arith, nat_tests, all_in_order)
