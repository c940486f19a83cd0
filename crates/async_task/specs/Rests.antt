-- What is left to be done after a step of a task's word.
use Rattle.std.specs.Prelude.{Bool, false, Option, Some, None}
use Rattle.task_moves.specs.declared.schedule_info.ScheduleInfo.{ScheduleInfo}
use Rattle.async_task.specs.declared.cell.turns.Rest.{Rest}
use Rattle.async_task.specs.declared.cell.turns.Rest.TheVariants.{Queue}

-- what is passed to a schedule value, where a Runnable has to be scheduled
abbrev pub info_of : {F T W : Type 0} → Rest F T W → Option ScheduleInfo
info_of (Queue woken) = Some woken.info
info_of _ = None

-- whether the task was woken while it was polled, by what has to be passed to its schedule value, if anything
abbrev pub was_woken_by : Option ScheduleInfo → Bool
was_woken_by (Some info) = info.woken_while_running
was_woken_by None = false
