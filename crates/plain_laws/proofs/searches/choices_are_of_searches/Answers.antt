use Rattle.std.proofs.lemmas.Bool.Decides.{nat_tests}
use Rattle.std.proofs.Common.{arith}
use Rattle.plain_laws.proofs.searches.choices_are_of_searches.Goals as goal

pub returns : goal.returns
returns = grind (arith, nat_tests)
