use Rattle.executor_laws.proofs.Seeking.SeekRuns.{runs-look-first}
use Rattle.executor_laws.proofs.Seeking.SeekTicks.{ticks-look-first}
use Rattle.executor_laws.proofs.laws.nothing_is_ready_where_none_was_found.Goals as goal

pub returns-clause-ticks : goal.returns-clause-ticks
returns-clause-ticks c = ticks-look-first

pub returns-clause-runs : goal.returns-clause-runs
returns-clause-runs c = runs-look-first
