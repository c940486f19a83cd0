use Rattle.std.proofs.lemmas.Bool.Decides.{nat_tests}
use Rattle.std.proofs.Common.{arith}
use Rattle.plain_laws.proofs.ComingBehind.{comes_behind}
use Rattle.plain_laws.proofs.coming.futures_come_behind.Goals as goal

pub returns : goal.returns
returns = grind (arith, nat_tests, comes_behind)
