use Rattle.executor_laws.proofs.Fewness.TakesTold.{takes-told}
use Rattle.executor_laws.proofs.laws.futures_are_polled_where_they_are_taken_up.Goals as goal

pub returns : goal.returns
returns c s = takes-told s
