-- What a step can see. One that sees nothing of its own fits anything.
use Rattle.std.specs.Prelude.{Option, Some, None}
use Rattle.call_steps.specs.declared.names.Section.{Section}
use Rattle.call_steps.specs.declared.names.Section.TheVariants.{MakeRun, Register, Unregister}
use Rattle.call_steps.specs.declared.names.TickOrRun.{TickOrRun}
use Rattle.call_steps.specs.declared.names.TickOrRun.TheVariants.{Tick, Run}
use Rattle.call_steps.specs.declared.names.Waker.{Waker}
use Rattle.call_steps.specs.declared.names.Waker.TheVariants.{Task, Outside}
use Rattle.call_steps.specs.declared.saw.Saw.{Saw}
use Rattle.call_steps.specs.declared.saw.Saw.TheVariants as saw
use Rattle.call_steps.specs.declared.step.CallStep.{CallStep}
use Rattle.call_steps.specs.declared.step.CallStep.TheVariants as step
use Rattle.call_steps.specs.declared.step.handle.HandleStep.{HandleStep}
use Rattle.call_steps.specs.declared.step.handle.HandleStep.TheVariants as handle_step
use Rattle.call_steps.specs.declared.step.handle.WakerStep.{WakerStep}
use Rattle.call_steps.specs.declared.step.handle.WakerStep.TheVariants as waker_step
use Rattle.call_steps.specs.declared.step.run.ListStep.{ListStep}
use Rattle.call_steps.specs.declared.step.run.ListStep.TheVariants as list_step
use Rattle.call_steps.specs.declared.step.run.RunStep.{RunStep}
use Rattle.call_steps.specs.declared.step.run.RunStep.TheVariants as run_step
use Rattle.call_steps.specs.declared.step.run.StealStep.{StealStep}
use Rattle.call_steps.specs.declared.step.run.StealStep.TheVariants as steal_step
use Rattle.call_steps.specs.declared.step.table.ClosingStep.{ClosingStep}
use Rattle.call_steps.specs.declared.step.table.ClosingStep.TheVariants as closing_step
use Rattle.call_steps.specs.declared.step.table.QueueStep.{QueueStep}
use Rattle.call_steps.specs.declared.step.table.QueueStep.TheVariants as queue_step
use Rattle.call_steps.specs.declared.step.table.TableStep.{TableStep}
use Rattle.call_steps.specs.declared.step.table.TableStep.TheVariants as table_step
use Rattle.call_steps.specs.declared.step.tick.SleeperStep.{SleeperStep}
use Rattle.call_steps.specs.declared.step.tick.SleeperStep.TheVariants as sleeper_step
use Rattle.call_steps.specs.declared.step.tick.TickStep.{TickStep}
use Rattle.call_steps.specs.declared.step.tick.TickStep.TheVariants as tick_step
use Rattle.call_steps.specs.declared.step.user.UserStep.{UserStep}
use Rattle.call_steps.specs.declared.step.user.UserStep.TheVariants as user_step

module _ {F T : Type 0} where
  abbrev pub FitsAny : Saw F T → Type 0
  FitsAny s = Unit {0}

  -- something or nothing
  abbrev pub FitsLook : Saw F T → Type 0
  FitsLook saw.Something = Unit {0}
  FitsLook saw.Nothing = Unit {0}
  FitsLook _ = ⊥

  -- it was made, or memory was refused
  abbrev pub FitsMaking : Saw F T → Type 0
  FitsMaking saw.Something = Unit {0}
  FitsMaking saw.NoMemory = Unit {0}
  FitsMaking _ = ⊥

  -- the first Runnable of a queue, or nothing
  abbrev pub FitsTake : Saw F T → Type 0
  FitsTake saw.Nothing = Unit {0}
  FitsTake (saw.Found f) = Unit {0}
  FitsTake _ = ⊥

  -- the same by a tick or run
  abbrev pub FitsSearch : Saw F T → Type 0
  FitsSearch saw.Nothing = Unit {0}
  FitsSearch (saw.FoundBy f at) = Unit {0}
  FitsSearch _ = ⊥

  abbrev pub FitsTurn : Saw F T → Type 0
  FitsTurn (saw.Turn m) = Unit {0}
  FitsTurn _ = ⊥

  abbrev pub FitsPoll : Saw F T → Type 0
  FitsPoll saw.Pending = Unit {0}
  FitsPoll saw.Ready = Unit {0}
  FitsPoll _ = ⊥

  abbrev pub FitsMove : Saw F T → Type 0
  FitsMove (saw.Moved there o) = Unit {0}
  FitsMove _ = ⊥

  abbrev pub FitsAwaiter : Saw F T → Type 0
  FitsAwaiter (saw.Awaiter there old) = Unit {0}
  FitsAwaiter _ = ⊥

  abbrev pub FitsCall : Waker F → Saw F T → Type 0
  FitsCall (Task f) s = FitsMove s
  FitsCall Outside saw.Outside = Unit {0}
  FitsCall Outside _ = ⊥

  abbrev pub FitsTable : TableStep F → Saw F T → Type 0
  FitsTable (table_step.Enter m) (saw.Entered f) = Unit {0}
  FitsTable (table_step.Enter m) saw.Full = Unit {0}
  FitsTable (table_step.Enter m) saw.NoMemory = Unit {0}
  FitsTable (table_step.Enter m) _ = ⊥
  FitsTable table_step.LookAtTable s = FitsLook s
  FitsTable (table_step.LeaveTable f) s = FitsLook s
  FitsTable (table_step.TakeToPoll f) s = FitsAny s
  FitsTable (table_step.PutBack f) s = FitsAny s
  FitsTable (table_step.TakeToDrop f) s = FitsAny s

  abbrev pub FitsQueue : QueueStep F → Saw F T → Type 0
  FitsQueue queue_step.TakeTurn s = FitsTurn s
  FitsQueue (queue_step.Take l) s = FitsTake s
  FitsQueue (queue_step.Append f) s = FitsLook s

  abbrev pub FitsUser : UserStep F T → Saw F T → Type 0
  FitsUser (user_step.Poll f) s = FitsPoll s
  FitsUser (user_step.PollOwn x) s = FitsPoll s
  FitsUser _ s = FitsAny s

  abbrev pub FitsWaker : WakerStep F → Saw F T → Type 0
  FitsWaker (waker_step.CopyWaker f) s = FitsMaking s
  FitsWaker (waker_step.CallAwaiter f a) s = FitsCall a s

  abbrev pub FitsHandle : HandleStep F → Saw F T → Type 0
  FitsHandle (handle_step.Look f a) s = FitsMove s
  FitsHandle (handle_step.LookAgain f) s = FitsMove s
  FitsHandle (handle_step.CopyAwaiter f a) s = FitsMaking s
  FitsHandle _ s = FitsAwaiter s

  abbrev pub FitsSleeper : SleeperStep F T → Saw F T → Type 0
  FitsSleeper sleeper_step.ExchangeFlag s = FitsLook s
  FitsSleeper sleeper_step.HandOut saw.Nothing = Unit {0}
  FitsSleeper sleeper_step.HandOut (saw.HandedOut s) = Unit {0}
  FitsSleeper sleeper_step.HandOut _ = ⊥
  FitsSleeper (sleeper_step.CallSleeper s) sees = FitsCall s.waker sees

  -- how a search begins: a tick sees a turn, and a run its own queue
  abbrev pub FitsBegin : TickOrRun T → Saw F T → Type 0
  FitsBegin (Tick t) s = FitsTurn s
  FitsBegin (Run r) s = FitsSearch s

  abbrev pub FitsFalling : Saw F T → Type 0
  FitsFalling saw.Anew = Unit {0}
  FitsFalling (saw.Already old) = Unit {0}
  FitsFalling saw.Nowhere = Unit {0}
  FitsFalling _ = ⊥

  abbrev pub FitsLeave : Saw F T → Type 0
  FitsLeave saw.Nothing = Unit {0}
  FitsLeave (saw.Left old) = Unit {0}
  FitsLeave _ = ⊥

  abbrev pub FitsTick : TickStep F T → Saw F T → Type 0
  FitsTick tick_step.MakeTick s = FitsMaking s
  FitsTick (tick_step.Search s) sees = FitsBegin s.who sees
  FitsTick (tick_step.Look s l) sees = FitsSearch sees
  FitsTick (tick_step.CopyWaker s) sees = FitsMaking sees
  FitsTick (tick_step.FallAsleep s) sees = FitsFalling sees
  FitsTick (tick_step.WakeUp who) (saw.Awake old) = Unit {0}
  FitsTick (tick_step.WakeUp who) _ = ⊥
  FitsTick (tick_step.Leave who) s = FitsLeave s

  abbrev pub FitsSection : Section F T → Saw F T → Type 0
  FitsSection MakeRun s = FitsMaking s
  FitsSection (Register x) s = FitsAny s
  FitsSection (Unregister r a) s = FitsAny s

  -- a walk comes to the next queue, or ends
  abbrev pub FitsWalk : Saw F T → Type 0
  FitsWalk saw.Nothing = Unit {0}
  FitsWalk (saw.Queue r left) = Unit {0}
  FitsWalk _ = ⊥

  abbrev pub FitsList : ListStep F T → Saw F T → Type 0
  FitsList (list_step.Write x) s = FitsSection x s
  FitsList (list_step.LockRead x) s = FitsWalk s
  FitsList _ s = FitsAny s

  abbrev pub FitsSteal : StealStep F T → Saw F T → Type 0
  FitsSteal (steal_step.Length s) (saw.Number n at) = Unit {0}
  FitsSteal (steal_step.OwnLength s n) (saw.Number free at) = Unit {0}
  FitsSteal (steal_step.Take s more) (saw.StealEnds at) = Unit {0}
  FitsSteal (steal_step.Take s more) (saw.Found f) = Unit {0}
  FitsSteal (steal_step.Put s more f) (saw.Fits at) = Unit {0}
  FitsSteal (steal_step.Put s more f) (saw.Refused at) = Unit {0}
  FitsSteal _ _ = ⊥

  -- in a walk a run finds what it stole, or goes on
  abbrev pub FitsOwn : Saw F T → Type 0
  FitsOwn (saw.FoundBy f at) = Unit {0}
  FitsOwn s = FitsWalk s

  abbrev pub FitsRun : RunStep F T → Saw F T → Type 0
  FitsRun run_step.MakeRoom s = FitsMaking s
  FitsRun run_step.ReturnRoom s = FitsAny s
  FitsRun (run_step.TakeTurn x) s = FitsTurn s
  FitsRun (run_step.SearchCommon x l) s = FitsTake s
  FitsRun (run_step.LookOwn x left) s = FitsOwn s
  FitsRun (run_step.WakeOwn x) s = FitsCall x.waker s
  FitsRun (run_step.Reschedule r a) s = FitsTake s

  abbrev pub FitsClosing : ClosingStep → Saw F T → Type 0
  FitsClosing closing_step.TakeOut (saw.Closes futures wakers) = Unit {0}
  FitsClosing closing_step.LeakOut (saw.Closes futures wakers) = Unit {0}
  FitsClosing closing_step.DropNext (saw.Drops f futures wakers) = Unit {0}
  FitsClosing closing_step.WakeNext (saw.Wakes f there o wakers) = Unit {0}
  FitsClosing closing_step.LeakNext (saw.Wakes f there o wakers) = Unit {0}
  FitsClosing (closing_step.Close m) s = FitsAny s
  FitsClosing (closing_step.Drain m) s = FitsTake s
  FitsClosing _ _ = ⊥

  -- what is to be done next can see this; a call that has nothing to do, or only to answer, sees nothing any more
  abbrev pub Fits : Option (CallStep F T) → Saw F T → Type 0
  Fits (Some (step.Move m f)) s = FitsMove s
  Fits (Some (step.Table o)) s = FitsTable o s
  Fits (Some (step.Queue o)) s = FitsQueue o s
  Fits (Some (step.User o)) s = FitsUser o s
  Fits (Some (step.Waker o)) s = FitsWaker o s
  Fits (Some (step.Handle o)) s = FitsHandle o s
  Fits (Some (step.Sleeper o)) s = FitsSleeper o s
  Fits (Some (step.Tick o)) s = FitsTick o s
  Fits (Some (step.List o)) s = FitsList o s
  Fits (Some (step.Steal o)) s = FitsSteal o s
  Fits (Some (step.Run o)) s = FitsRun o s
  Fits (Some (step.Closing o)) s = FitsClosing o s
  Fits (Some (step.End r)) s = ⊥
  Fits None s = ⊥
