use Rattle.solo_laws.proofs.Stepping.Waking.{wakes_go, uses_go, releases_go}
use Rattle.solo_laws.proofs.turns.wakes_go_by_next.Goals as goal

pub returns-clause-wakes : goal.returns-clause-wakes
returns-clause-wakes g c s = wakes_go s

pub returns-clause-uses : goal.returns-clause-uses
returns-clause-uses g c s = uses_go s

pub returns-clause-releases : goal.returns-clause-releases
returns-clause-releases g c s = releases_go s
