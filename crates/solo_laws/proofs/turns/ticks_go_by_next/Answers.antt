use Rattle.solo_laws.proofs.Stepping.Ticking.{ticks_begin, tick_takes_go, tick_searches_go, tick_sleeps_go, tick_leaves_go}
use Rattle.solo_laws.proofs.turns.ticks_go_by_next.Goals as goal

pub returns-clause-begin : goal.returns-clause-begin
returns-clause-begin g c s = ticks_begin s

pub returns-clause-takes : goal.returns-clause-takes
returns-clause-takes g c s = tick_takes_go s

pub returns-clause-searches : goal.returns-clause-searches
returns-clause-searches g c s = tick_searches_go s

pub returns-clause-sleeps : goal.returns-clause-sleeps
returns-clause-sleeps g c s = tick_sleeps_go s

pub returns-clause-leave : goal.returns-clause-leave
returns-clause-leave g c s = tick_leaves_go s
