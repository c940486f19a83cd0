-- Of which cell a handle is.
use Rattle.std.specs.Prelude.{◌≡◌, Result, Ok, Err}
use Rattle.task_word.specs.declared.cell.Cell.{Cell}
use Rattle.task_word.specs.declared.tokens.Task.{Task}
use Rattle.task_word.specs.declared.tokens.handles.OwingTask.{OwingTask}

-- it is of this cell, and has to call the awaiter or not
abbrev pub IsHandleOf : {F T W : Type 0} → Cell F T W → Result (Task F T W) (OwingTask F T W) → Type 0
IsHandleOf cell (Ok task) = task.cell.now ≡ cell
IsHandleOf cell (Err owing) = owing.task.cell.now ≡ cell
