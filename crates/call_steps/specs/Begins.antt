-- What a call begins with, by what it is asked.
use Rattle.std.specs.Prelude.{List, [], ◌∷◌}
use Rattle.task_moves.specs.declared.moves.owed.Move.TheVariants as move
use Rattle.call_steps.specs.declared.asked.Asked.{Asked}
use Rattle.call_steps.specs.declared.asked.Asked.TheVariants as asked
use Rattle.call_steps.specs.declared.names.RunPoll.{RunPoll}
use Rattle.call_steps.specs.declared.names.Section.TheVariants as section
use Rattle.call_steps.specs.declared.names.Stage.{Stage}
use Rattle.call_steps.specs.declared.names.Stage.TheVariants.{New, Listed, Ended}
use Rattle.call_steps.specs.declared.names.TickOrRun.TheVariants as tick_or_run
use Rattle.call_steps.specs.declared.part.Part.{Part}
use Rattle.call_steps.specs.declared.part.Part.TheVariants as part
use Rattle.call_steps.specs.declared.reply.Reply.TheVariants as reply
use Rattle.call_steps.specs.declared.step.CallStep.{CallStep}
use Rattle.call_steps.specs.declared.step.CallStep.TheVariants as step
use Rattle.call_steps.specs.declared.step.handle.HandleStep.TheVariants as handle_step
use Rattle.call_steps.specs.declared.step.handle.WakerStep.TheVariants as waker_step
use Rattle.call_steps.specs.declared.step.run.ListStep.TheVariants as list_step
use Rattle.call_steps.specs.declared.step.run.RunStep.TheVariants as run_step
use Rattle.call_steps.specs.declared.step.table.ClosingStep.TheVariants as closing_step
use Rattle.call_steps.specs.declared.step.table.QueueStep.TheVariants as queue_step
use Rattle.call_steps.specs.declared.step.table.TableStep.TheVariants as table_step
use Rattle.call_steps.specs.declared.step.tick.TickStep.TheVariants as tick_step
use Rattle.call_steps.specs.declared.step.user.UserStep.TheVariants as user_step

module _ {F T : Type 0} where
  -- a run registers its own queue at its first poll; once its own future was ready it is finished
  abbrev pub poll_run : Stage → RunPoll F T → List (CallStep F T)
  poll_run New x = step.List (list_step.LockWrite (section.Register x)) ∷ []
  poll_run Listed x = step.User (user_step.PollOwn x) ∷ []
  poll_run Ended x = step.End reply.Finished ∷ []

  -- its own future is dropped, unless that was ready; its own queue goes from the list, where it is there, and what is
  -- left in it is scheduled; and the run leaves the sleepers
  abbrev pub drop_run : Stage → T → List (CallStep F T)
  drop_run New r = step.User (user_step.DropOwn r) ∷ step.Run (run_step.Reschedule r reply.Done) ∷ []
  drop_run Listed r =
      step.User (user_step.DropOwn r) ∷ step.List (list_step.LockWrite (section.Unregister r reply.Done)) ∷ []
  drop_run Ended r = step.Tick (tick_step.Leave (tick_or_run.Run r)) ∷ step.End reply.Done ∷ []

  abbrev pub begins : Asked F T → List (CallStep F T)
  begins (asked.Spawn m) = step.Table (table_step.Enter m) ∷ []
  begins asked.TryTick = step.Queue queue_step.TakeTurn ∷ []
  begins asked.IsEmpty = step.Table table_step.LookAtTable ∷ []
  begins (asked.Wake f) = step.Move move.Wake f ∷ step.End reply.Done ∷ []
  begins (asked.WakeByRef f) = step.Move move.WakeByReference f ∷ step.End reply.Done ∷ []
  begins (asked.Copy f) = step.Waker (waker_step.CopyWaker f) ∷ []
  begins (asked.DropWaker f) = step.Move move.Release f ∷ step.End reply.Done ∷ []
  begins (asked.PollHandle f a) = step.Handle (handle_step.Look f a) ∷ []
  begins (asked.Cancel f) = step.Move move.Cancel f ∷ step.End reply.Done ∷ []
  begins (asked.Detach f) = step.Move move.Detach f ∷ step.End reply.Done ∷ []
  begins (asked.DropHandle f) = step.Move move.Cancel f ∷ step.Move move.Detach f ∷ step.End reply.Done ∷ []
  begins asked.NewTick = step.Tick tick_step.MakeTick ∷ []
  begins (asked.PollTick s) = step.Tick (tick_step.Search s) ∷ []
  begins (asked.DropTick t) = step.Tick (tick_step.Leave (tick_or_run.Tick t)) ∷ step.End reply.Done ∷ []
  begins asked.NewRun = step.Run run_step.MakeRoom ∷ []
  begins (asked.PollRun x at) = poll_run at x
  begins (asked.DropRun r at) = drop_run at r
  begins asked.Leak = step.Closing closing_step.LeakOut ∷ step.End reply.Done ∷ []
  begins asked.DropExecutor = step.Closing closing_step.TakeOut ∷ step.End reply.Done ∷ []

  -- a part of a call answers nothing
  abbrev pub part_begins : Part F → List (CallStep F T)
  part_begins (part.Append f) = step.Queue (queue_step.Append f) ∷ []
