use Rattle.call_laws.proofs.Gone.{dropped-gone}
use Rattle.call_laws.proofs.drops.dropped_ticks_and_runs_are_gone.Goals as goal

pub returns : goal.returns
returns c = dropped-gone
