use Rattle.solo_laws.proofs.Stepping.Ending.{ready_settles_go, pending_settles_go, finishes_go, retracts_go}
use Rattle.solo_laws.proofs.turns.polls_end_by_next.Goals as goal

pub returns-clause-ready : goal.returns-clause-ready
returns-clause-ready g c s = ready_settles_go s

pub returns-clause-pending : goal.returns-clause-pending
returns-clause-pending g c s = pending_settles_go s

pub returns-clause-finish : goal.returns-clause-finish
returns-clause-finish g c s = finishes_go s

pub returns-clause-retract : goal.returns-clause-retract
returns-clause-retract g c s = retracts_go s
