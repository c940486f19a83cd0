use Rattle.solo_laws.proofs.Stepping.Running.{runs_begin, runs_register, run_leaves_go, run_drains_go}
use Rattle.solo_laws.proofs.turns.runs_go_by_next.Goals as goal

pub returns-clause-begin : goal.returns-clause-begin
returns-clause-begin g c s = runs_begin s

pub returns-clause-register : goal.returns-clause-register
returns-clause-register g c s = runs_register s

pub returns-clause-leave : goal.returns-clause-leave
returns-clause-leave g c s = run_leaves_go s

pub returns-clause-drain : goal.returns-clause-drain
returns-clause-drain g c s = run_drains_go s
