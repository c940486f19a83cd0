use Rattle.solo_laws.proofs.Stepping.Taking.{looks_go, spawns_go, refusals_go, takes_go}
use Rattle.solo_laws.proofs.turns.takes_go_by_next.Goals as goal

pub returns-clause-looks : goal.returns-clause-looks
returns-clause-looks g c s = looks_go s

pub returns-clause-spawns : goal.returns-clause-spawns
returns-clause-spawns g c s = spawns_go s

pub returns-clause-refusals : goal.returns-clause-refusals
returns-clause-refusals g c s = refusals_go s

pub returns-clause-takes : goal.returns-clause-takes
returns-clause-takes g c s = takes_go s
