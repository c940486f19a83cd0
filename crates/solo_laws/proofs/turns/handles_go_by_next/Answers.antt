use Rattle.solo_laws.proofs.Stepping.Waking.{cancels_go, detaches_go}
use Rattle.solo_laws.proofs.turns.handles_go_by_next.Goals as goal

pub returns-clause-cancels : goal.returns-clause-cancels
returns-clause-cancels g c s = cancels_go s

pub returns-clause-detaches : goal.returns-clause-detaches
returns-clause-detaches g c s = detaches_go s
