use Rattle.solo_laws.proofs.Stepping.Closing.{leaks_go, leak_nexts_go, closes_go, drains_go}
use Rattle.solo_laws.proofs.turns.ends_go_by_next.Goals as goal

pub returns-clause-leaks : goal.returns-clause-leaks
returns-clause-leaks g c s = leaks_go s

pub returns-clause-leak_nexts : goal.returns-clause-leak_nexts
returns-clause-leak_nexts g c s = leak_nexts_go s

pub returns-clause-closes : goal.returns-clause-closes
returns-clause-closes g c s = closes_go s

pub returns-clause-drains : goal.returns-clause-drains
returns-clause-drains g c s = drains_go s
