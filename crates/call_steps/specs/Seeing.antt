-- What a running call sees, and how that leaves what it has still to do.
use Rattle.std.specs.Prelude.{◌≡◌, ℕ, Bool, true, false, Option, Some, None, List, ◌∷◌}
use Rattle.task_moves.specs.declared.moves.owed.FutureDebt.{FutureDebt}
use Rattle.task_moves.specs.declared.moves.owed.FutureDebt.TheVariants.{DropFuture}
use Rattle.task_moves.specs.declared.moves.owed.Move.{Move}
use Rattle.task_moves.specs.declared.moves.owed.Owed.{Owed}
use Rattle.task_moves.specs.declared.schedule_info.ScheduleInfo.{ScheduleInfo}
use Rattle.call_steps.specs.declared.names.Sleeping.{Sleeping}
use Rattle.call_steps.specs.declared.saw.Saw.{Saw}
use Rattle.call_steps.specs.declared.saw.Saw.TheVariants as saw
use Rattle.call_steps.specs.declared.step.CallStep.{CallStep}
use Rattle.call_steps.specs.declared.step.CallStep.TheVariants as step
use Rattle.call_steps.specs.declared.step.table.QueueStep.TheVariants as queue_step
use Rattle.call_steps.specs.declared.step.tick.SleeperStep.TheVariants as sleeper_step
use Rattle.call_steps.specs.Todo.{below, top}

-- a task that wasn't woken while it was polled is to be scheduled, or not
abbrev pub infos : Bool → Option ScheduleInfo
infos true = Some (record { woken_while_running = false })
infos false = None

-- a Runnable is due, or nothing
abbrev pub owes : Bool → Owed
owes is_due = record {
  schedule = infos is_due;
  future = None;
  drop_output = false;
  awaiter = None;
  next = None;
  answer = None;
  empty_cell = false;
}

-- this is owed to the future, and this move follows
abbrev pub owes_future : FutureDebt → Option Move → Owed
owes_future debt next = record {
  schedule = None;
  future = Some debt;
  drop_output = false;
  awaiter = None;
  next = next;
  answer = None;
  empty_cell = false;
}

module _ {F T : Type 0} where
  -- it was there, or not
  abbrev pub seen : Bool → Saw F T
  seen true = saw.Something
  seen false = saw.Nothing

  -- a task has moved, and all was paid but a Runnable, where that is due
  abbrev pub moved : Bool → Saw F T
  moved is_due = saw.Moved false (owes is_due)

  -- a waker that came out of the table was called, of the task of this future, and so many are left; all that this owed was
  -- paid but a Runnable, where that is due
  abbrev pub woke : F → Bool → ℕ → Saw F T
  woke f is_due left = saw.Wakes f false (owes is_due) left

  -- a task has moved, and this is owed to its future, and then this move follows
  abbrev pub futured : FutureDebt → Option Move → Saw F T
  futured debt next = saw.Moved true (owes_future debt next)

  -- a poll has ended of a task that nobody can reach any more: its future is to be dropped, and then all that its cell still has
  abbrev pub forgotten : Saw F T
  forgotten = saw.Moved true (record (owes_future DropFuture None) { empty_cell = true })

  -- the waker that was handed out is called first
  abbrev pub called : Option (Sleeping F T) → List (CallStep F T) → List (CallStep F T)
  called (Some s) rest = step.Sleeper (sleeper_step.CallSleeper s) ∷ rest
  called None rest = rest

  -- a Runnable that is due is appended first
  abbrev pub due : Option F → List (CallStep F T) → List (CallStep F T)
  due (Some f) rest = step.Queue (queue_step.Append f) ∷ rest
  due None rest = rest

  -- the Runnable of this future, where there is one, is to be appended next
  abbrev pub IsDue : Option F → List (CallStep F T) → Type 0
  IsDue (Some f) todo = top todo ≡ Some (step.Queue (queue_step.Append f))
  IsDue None todo = Unit {0}

  -- once it was, with all that this led to
  abbrev pub paid : Option F → List (CallStep F T) → List (CallStep F T)
  paid (Some f) todo = below todo
  paid None todo = todo
