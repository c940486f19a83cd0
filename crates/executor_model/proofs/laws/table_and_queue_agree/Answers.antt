use Rattle.executor_model.specs.Entries.{OwnAgrees, TableAgrees, QueueAgrees}
use Rattle.executor_model.proofs.Table.Entering.{places, own-agrees, table-agrees, queue-agrees}
use Rattle.executor_model.proofs.laws.table_and_queue_agree.Goals as goal

pub returns-clause-table : goal.returns-clause-table
returns-clause-table c = places TableAgrees (λ s f fine h. table-agrees s f fine h)

pub returns-clause-queue : goal.returns-clause-queue
returns-clause-queue c = places QueueAgrees (λ s f fine h. queue-agrees s f fine h)

pub returns-clause-own : goal.returns-clause-own
returns-clause-own c = places OwnAgrees (λ s f fine h. own-agrees s f fine h)
