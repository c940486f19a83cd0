use Rattle.executor_laws.proofs.Exactness.Ticking.{ticks-exact}
use Rattle.executor_laws.proofs.laws.ticks_are_exact.Goals as goal

pub returns : goal.returns
returns c = ticks-exact
