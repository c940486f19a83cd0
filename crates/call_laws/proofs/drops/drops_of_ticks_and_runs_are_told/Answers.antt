use Rattle.call_laws.proofs.Telling.{every-told}
use Rattle.call_laws.proofs.drops.drops_of_ticks_and_runs_are_told.Goals as goal

pub returns : goal.returns
returns c = every-told
