use Rattle.solo_laws.proofs.Stepping.Searching.{run_takes_go, run_searches_go}
use Rattle.solo_laws.proofs.turns.runs_search_by_next.Goals as goal

pub returns-clause-takes : goal.returns-clause-takes
returns-clause-takes g c s = run_takes_go s

pub returns-clause-searches : goal.returns-clause-searches
returns-clause-searches g c s = run_searches_go s
