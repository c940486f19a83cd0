use Rattle.executor_laws.proofs.Termination.Ends.{every-step-lowers, every-list-ends}
use Rattle.executor_laws.proofs.Termination.GoingOn.{every-holder-goes-on, goes-on}
use Rattle.executor_laws.proofs.laws.calls_end.Goals as goal

pub returns-clause-lowered : goal.returns-clause-lowered
returns-clause-lowered g = every-step-lowers

pub returns-clause-ended : goal.returns-clause-ended
returns-clause-ended g = every-list-ends

pub returns-clause-goes : goal.returns-clause-goes
returns-clause-goes g s = goes-on s

pub returns-clause-held : goal.returns-clause-held
returns-clause-held g = every-holder-goes-on
