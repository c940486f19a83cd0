use Rattle.executor_model.proofs.Table.Bounds.{table-bound}
use Rattle.executor_model.proofs.Table.Pairs.{entries-outlast}
use Rattle.executor_model.proofs.laws.the_table_is_kept.Goals as goal

pub returns-clause-bounded : goal.returns-clause-bounded
returns-clause-bounded c = table-bound

pub returns-clause-entries : goal.returns-clause-entries
returns-clause-entries c = entries-outlast
