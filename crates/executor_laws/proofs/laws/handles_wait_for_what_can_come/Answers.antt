use Rattle.executor_laws.proofs.Seeking.SeekHandles.{handles-look-first}
use Rattle.executor_laws.proofs.Seeking.SettledAtRest.{dropped-is-settled}
use Rattle.executor_laws.proofs.laws.handles_wait_for_what_can_come.Goals as goal

pub returns-clause-looked : goal.returns-clause-looked
returns-clause-looked c = handles-look-first

pub returns-clause-settled : goal.returns-clause-settled
returns-clause-settled c = dropped-is-settled
