-- What a move of a task owes, as steps of the call that made it, in the order in which they are paid.
use Rattle.std.specs.Prelude.{Bool, true, false, ◌&&◌, Option, Some, None, List, [], ◌∷◌, ◌++◌}
use Rattle.task_moves.specs.declared.schedule_info.ScheduleInfo.{ScheduleInfo}
use Rattle.task_moves.specs.declared.moves.owed.Answer.{Answer}
use Rattle.task_moves.specs.declared.moves.owed.Answer.TheVariants as answer
use Rattle.task_moves.specs.declared.moves.owed.AwaiterDebt.{AwaiterDebt}
use Rattle.task_moves.specs.declared.moves.owed.AwaiterDebt.TheVariants.{NotifyAwaiter, NotifyOther}
use Rattle.task_moves.specs.declared.moves.owed.FutureDebt.{FutureDebt}
use Rattle.task_moves.specs.declared.moves.owed.FutureDebt.TheVariants.{PollFuture, DropFuture}
use Rattle.task_moves.specs.declared.moves.owed.Move.{Move}
use Rattle.task_moves.specs.declared.moves.owed.Move.TheVariants as move
use Rattle.task_moves.specs.declared.moves.owed.Owed.{Owed}
use Rattle.call_steps.specs.declared.names.Waker.{Waker}
use Rattle.call_steps.specs.declared.names.Waker.TheVariants.{Task, Outside}
use Rattle.call_steps.specs.declared.reply.Reply.{Reply}
use Rattle.call_steps.specs.declared.reply.Reply.TheVariants as reply
use Rattle.call_steps.specs.declared.step.CallStep.{CallStep}
use Rattle.call_steps.specs.declared.step.CallStep.TheVariants as step
use Rattle.call_steps.specs.declared.step.handle.HandleStep.TheVariants as handle_step
use Rattle.call_steps.specs.declared.step.handle.WakerStep.TheVariants as waker_step
use Rattle.call_steps.specs.declared.step.table.QueueStep.TheVariants as queue_step
use Rattle.call_steps.specs.declared.step.table.TableStep.TheVariants as table_step
use Rattle.call_steps.specs.declared.step.user.UserStep.TheVariants as user_step

-- whether the future is to be dropped
abbrev pub drops : Option FutureDebt → Bool
drops (Some PollFuture) = false
drops (Some DropFuture) = true
drops None = false

-- what a poll of a handle is answered
abbrev pub reply_of : Answer → Reply
reply_of answer.Refused = reply.NoMemory
reply_of answer.Pending = reply.Pending
reply_of answer.Closed = reply.Cancelled
reply_of answer.Output = reply.Ready

module _ {F T : Type 0} where
  abbrev pub scheduled : F → Option ScheduleInfo → List (CallStep F T)
  scheduled f (Some info) = step.Queue (queue_step.Append f) ∷ []
  scheduled f None = []

  -- a future that the executor's drop took out of the table is dropped by that
  abbrev pub dropping : Bool → F → List (CallStep F T)
  dropping true f = step.Table (table_step.TakeToDrop f) ∷ []
  dropping false f = []

  abbrev pub futures : Bool → F → Option FutureDebt → List (CallStep F T)
  futures there f (Some PollFuture) = step.Table (table_step.TakeToPoll f) ∷ []
  futures there f (Some DropFuture) = dropping there f
  futures there f None = []

  abbrev pub outputs : Bool → F → List (CallStep F T)
  outputs true f = step.User (user_step.BeginDropOutput f) ∷ []
  outputs false f = []

  -- the other debts are paid by the handle's poll and by the notifier
  abbrev pub awaited : F → Option AwaiterDebt → List (CallStep F T)
  awaited f (Some NotifyAwaiter) = step.Handle (handle_step.Notify f false) ∷ []
  awaited f (Some NotifyOther) = step.Handle (handle_step.Notify f true) ∷ []
  awaited f _ = []

  abbrev pub moves : F → Option Move → List (CallStep F T)
  moves f (Some move.Release) = step.Move move.Release f ∷ []
  moves f (Some move.SettleClosed) = step.Move move.SettleClosed f ∷ []
  moves f (Some move.GiveUp) = step.Move move.GiveUp f ∷ []
  moves f (Some move.EndClosed) = step.Move move.EndClosed f ∷ []
  moves f (Some move.Detach) = step.Move move.Detach f ∷ []
  moves f _ = []

  -- a cell that is emptied as its future is dropped lets the awaiter go
  abbrev pub emptied : Bool → F → List (CallStep F T)
  emptied true f = step.Handle (handle_step.LetGo f) ∷ []
  emptied false f = []

  -- the table has the future, or not
  abbrev pub owed : Bool → F → Owed → List (CallStep F T)
  owed there f o =
      scheduled f o.schedule ++ futures there f o.future ++ outputs o.drop_output f ++
      awaited f o.awaiter ++ moves f o.next ++ emptied (o.empty_cell && drops o.future) f

  -- a poll of a handle is answered, and pays what it owes first
  abbrev pub answered : F → Option AwaiterDebt → Answer → List (CallStep F T)
  answered f debt a = awaited f debt ++ step.End (reply_of a) ∷ []

  -- a waker goes that isn't called
  abbrev pub released : Option (Waker F) → List (CallStep F T)
  released (Some (Task f)) = step.Move move.Release f ∷ []
  released (Some Outside) = []
  released None = []

  -- an awaiter was taken out: it is called, or let go where the poll's own waker wakes the same
  abbrev pub told : Bool → F → Option (Waker F) → List (CallStep F T)
  told same f None = []
  told true f (Some a) = released (Some a)
  told false f (Some a) = step.Waker (waker_step.CallAwaiter f a) ∷ []
