use Rattle.std.proofs.lemmas.Bool.Decides.{nat_tests}
use Rattle.std.proofs.Common.{arith}
use Rattle.plain_laws.proofs.Begun.{only_one}
use Rattle.plain_laws.proofs.order.only_begun_runs_keep_futures.Goals as goal

pub returns : goal.returns
returns = grind (arith, nat_tests, only_one)
