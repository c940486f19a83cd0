use Rattle.std.proofs.lemmas.Bool.Decides.{nat_tests}
use Rattle.std.proofs.Common.{arith}
use Rattle.plain_laws.proofs.Robbing.{no_less}
use Rattle.plain_laws.proofs.searches.runs_rob_one_alone.Goals as goal

pub returns : goal.returns
returns = grind (arith, nat_tests, no_less)
