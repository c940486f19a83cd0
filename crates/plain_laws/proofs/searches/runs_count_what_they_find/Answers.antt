use Rattle.std.proofs.lemmas.Bool.Decides.{nat_tests}
use Rattle.std.proofs.Common.{arith}
use Rattle.plain_laws.proofs.Counts.{counts_found}
use Rattle.plain_laws.proofs.searches.runs_count_what_they_find.Goals as goal

pub returns : goal.returns
returns = grind (arith, nat_tests, counts_found)
