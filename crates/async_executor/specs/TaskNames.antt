-- Which task a name is of.
use Rattle.async_task.specs.declared.cell.Identity.{Identity}
use Rattle.async_executor.specs.declared.task_name.KnownBy.{KnownBy}
use Rattle.async_executor.specs.declared.task_name.KnownBy.TheVariants.{Runnable, Waker, Identified}

abbrev pub identity_by : KnownBy → Identity
identity_by (Runnable stored) = stored.value.identity
identity_by (Waker stored) = stored.value.identity
identity_by (Identified by) = by.value
