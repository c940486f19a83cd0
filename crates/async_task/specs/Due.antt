-- What a call that isn't the end of a poll has to pass to a task's schedule value.
use Rattle.std.specs.Prelude.{◌≡◌}
use Rattle.async_task.specs.Handles.{Resting}
use Rattle.async_task.specs.declared.cell.scheduled.Due.{Due}
use Rattle.std.specs.Prelude.{false}
use Rattle.task_moves.specs.declared.schedule_info.ScheduleInfo.{ScheduleInfo}

-- the task wasn't woken while it was polled
abbrev pub WasIdle : ScheduleInfo → Type 0
WasIdle info = info.woken_while_running ≡ false

-- it is the Runnable of the task that lies there
pub record IsDueBy {F T S M W R : Type 0} (site : Resting) (due : Due F T S M W R) : Type 0 where
  pub runnable : due.runnable.identity ≡ site.identity
  pub idle : WasIdle due.info
