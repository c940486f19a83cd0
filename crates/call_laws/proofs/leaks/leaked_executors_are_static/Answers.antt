use Rattle.call_laws.proofs.Leaking.{leaked-static}
use Rattle.call_laws.proofs.leaks.leaked_executors_are_static.Goals as goal

pub returns : goal.returns
returns c = leaked-static
