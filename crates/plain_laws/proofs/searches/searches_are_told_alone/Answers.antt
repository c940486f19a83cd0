use Rattle.std.proofs.lemmas.Bool.Decides.{nat_tests}
use Rattle.std.proofs.Common.{arith}
use Rattle.plain_laws.proofs.Searching.{tell_it}
use Rattle.plain_laws.proofs.searches.searches_are_told_alone.Goals as goal

pub returns : goal.returns
returns = grind (arith, nat_tests, tell_it)
