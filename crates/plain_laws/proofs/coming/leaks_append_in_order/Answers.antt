use Rattle.std.proofs.lemmas.Bool.Decides.{nat_tests}
use Rattle.std.proofs.Common.{arith}
use Rattle.plain_laws.proofs.Leaking.{leaks_so}
use Rattle.plain_laws.proofs.coming.leaks_append_in_order.Goals as goal

pub returns : goal.returns
returns = grind (arith, nat_tests, leaks_so)
