-- What becomes of the awaiter of a task with one owner, and of its marks, where nobody else is at it.
use Rattle.std.specs.Prelude.{true, false, Option, Some, None}
use Rattle.task_moves.specs.declared.moves.state.State.{State}
use Rattle.task_moves.specs.declared.moves.owed.AwaiterDebt.{AwaiterDebt}
use Rattle.task_moves.specs.declared.moves.owed.AwaiterDebt.TheVariants.{NotifyAwaiter}

abbrev pub notified : Option AwaiterDebt → State → State
notified (Some NotifyAwaiter) s = record s { awaiter = false; notifying = false }
notified _ s = s

abbrev pub registered : State → State
registered s = record s { awaiter = true; registering = false }

module _ {A : Type 0} where
  -- the awaiter that is woken
  abbrev pub called : Option AwaiterDebt → Option A → Option A
  called (Some NotifyAwaiter) awaiter = awaiter
  called _ awaiter = None

  -- the awaiter that stays
  abbrev pub uncalled : Option AwaiterDebt → Option A → Option A
  uncalled (Some NotifyAwaiter) awaiter = None
  uncalled _ awaiter = awaiter
