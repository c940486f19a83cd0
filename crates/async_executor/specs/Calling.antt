-- How a waker is called that its caller keeps.
use Rattle.std.specs.Prelude.{false}
use Rattle.async_task.specs.declared.cell.Identity.{Identity}
use Rattle.call_steps.specs.Fitting.{Fits}
use Rattle.call_steps.specs.Seeing.{moved}
use Rattle.call_steps.specs.Todo.{following, top}
use Rattle.call_steps.specs.declared.names.Waker.{Waker}
use Rattle.call_steps.specs.declared.names.Waker.TheVariants.{Task, Outside}
use Rattle.call_steps.specs.declared.saw.Saw.TheVariants as saw
use Rattle.async_executor.specs.Runs.{Todo}

-- one of this name is to be called next
abbrev pub CallsKept : Waker Identity → Todo → Type 0
CallsKept (Task f) todo = Fits (top todo) (moved false)
CallsKept Outside todo = Fits (top todo) saw.Outside × Fits (top (following saw.Outside todo)) saw.Nothing

-- what is left once it was called: a task that was queued by that is paid
abbrev pub called_kept : Waker Identity → Todo → Todo
called_kept (Task f) todo = following (moved false) todo
called_kept Outside todo = following saw.Nothing (following saw.Outside todo)
