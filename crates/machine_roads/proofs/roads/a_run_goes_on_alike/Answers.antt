use Rattle.machine_roads.proofs.RunGoesOn.{run_drops, run_forgets, run_loses, run_pends}
use Rattle.machine_roads.proofs.roads.a_run_goes_on_alike.Goals as goal

pub returns-clause-pends : goal.returns-clause-pends
returns-clause-pends g p here below w q under follows = run_pends p here below w q under follows

pub returns-clause-drops : goal.returns-clause-drops
returns-clause-drops g p here below w q under follows = run_drops p here below w q under follows

pub returns-clause-loses : goal.returns-clause-loses
returns-clause-loses g = run_loses

pub returns-clause-forgets : goal.returns-clause-forgets
returns-clause-forgets g = run_forgets
