use Rattle.executor_laws.proofs.Placement.OwnAlways.{ends-only-by-its-own}
use Rattle.executor_laws.proofs.Placement.OwnReady.{ends-by-its-own}
use Rattle.executor_laws.proofs.laws.runs_end_by_their_own_futures.Goals as goal

pub returns-clause-since : goal.returns-clause-since
returns-clause-since g = ends-by-its-own

pub returns-clause-always : goal.returns-clause-always
returns-clause-always g = ends-only-by-its-own
