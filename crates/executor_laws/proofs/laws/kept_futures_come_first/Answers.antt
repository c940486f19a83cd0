use Rattle.executor_laws.proofs.RunReach.KeptWalks.{kept-come-first}
use Rattle.executor_laws.proofs.laws.kept_futures_come_first.Goals as goal

pub returns : goal.returns
returns c = kept-come-first
