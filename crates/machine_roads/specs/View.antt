-- A task of the machine as one of the plain scheduler. The machine knows that an output is there, and not which.
use Rattle.std.specs.Prelude.{ℕ, ◌&&◌, not, if◌then◌else◌, Option, Some, None}
use Rattle.task_moves.specs.declared.moves.state.State.{State}
use Rattle.task_moves.specs.AbstractTask.{AbstractTask}
use Rattle.task_moves.specs.LocalTask.{task_of}
use Rattle.executor_model.specs.declared.op.Awaiter.{Awaiter}
use Rattle.executor_model.specs.declared.op.Waker.{Waker}
use Rattle.executor_model.specs.declared.op.Waker.TheVariants.{Task, Outside}
use Rattle.executor_model.specs.World.{World, task, awaiter_of}

-- which future a waker wakes
abbrev pub wakes : Waker → Option ℕ
wakes (Task f) = Some f
wakes (Outside x) = None

abbrev pub Output : Type 0
Output = Unit {0}

abbrev pub output_of : State → Option Output
output_of s = if s.completed && not s.closed then Some tt else None

-- a task by its marks and its count, and by who awaits it
abbrev pub view : State → Option Waker → AbstractTask Output Waker
view s awaiter = task_of s (output_of s) awaiter

abbrev pub waker_in : Option Awaiter → Option Waker
waker_in None = None
waker_in (Some a) = Some a.waker

abbrev pub task_in : World → ℕ → AbstractTask Output Waker
task_in w f = view (task w f) (waker_in (awaiter_of w f))
